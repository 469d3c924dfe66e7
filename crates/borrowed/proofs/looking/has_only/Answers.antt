use Rattle.std.proofs.Common.{◌≡◌, ℕ, ◌+◌, List, ◌∷◌, false, ◌&&◌, drop, map, bytes_eq, ap, sym, ◌∙◌, arith}
use Rattle.std.proofs.lemmas.List.{drop_more, at_drop_all}
use Rattle.std.specs.List.{list_any}
use Rattle.json.specs.Value.{members_view}
use Rattle.borrowed.proofs.LookFacts.{keys_pass, has_only-keys}
use Rattle.borrowed.proofs.looking.has_only.Goals as goal

pub returns-then-not-is_among : goal.returns-then-not-is_among
returns-then-not-is_among c =
    let test = λ (key : List ℕ). list_any (λ known. bytes_eq known key) (map (λ k. k.now) c.args.keys.now) in
    let ms = c.args.members.now in
    let i = c.loop-member.member-index in
    let m = c.member-item.result in
    let here : drop i ms ≡ m ∷ drop (i + 1) ms = drop_more ms i m (omega arith) ∙ ap (λ y. y ∷ drop (i + 1) ms) (sym c.member-item.is) in
    let other : test m.0.now ≡ false = grind arith in
    sym (has_only-keys test (members_view ms) ∙ c.loop-member.invariant ∙ ap (λ ys. keys_pass test (members_view ys)) here
    ∙ ap (λ b. b && keys_pass test (members_view (drop (i + 1) ms))) other)

pub returns : goal.returns
returns c =
    let test = λ (key : List ℕ). list_any (λ known. bytes_eq known key) (map (λ k. k.now) c.args.keys.now) in
    let ms = c.args.members.now in
    let i = c.loop-member.member-index in
    sym (has_only-keys test (members_view ms) ∙ c.loop-member.invariant ∙ at_drop_all (λ ys. keys_pass test (members_view ys)) ms i (omega arith))
