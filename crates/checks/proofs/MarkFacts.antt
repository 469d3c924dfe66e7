-- Where no word is looked for in the lines that are left.
use Rattle.std.proofs.Common.{◌≡◌, ◌<◌, ◌+◌, ◌∙◌, ℕ, Bool, true, false, Bor, List, length, Option, None, ap, drop, get_or, map, sym, if◌then◌else◌}
use Rattle.std.proofs.lemmas.List.{drop_more}
use Rattle.std.specs.Option.{option_or, option_map}
use Rattle.plain.specs.declared.refusal.Code.{Code}
use Rattle.pointed.specs.Pointing.{are_flags_alone, pointed_later}
use Rattle.sentences.specs.declared.subject.Subject.{Subject}
use Rattle.checks.specs.Mark.{PlacedSpot, later_spot}

-- after a line that has more than flags
pub no_spot : (code : Code) (subject : Subject) (above : ℕ) (front : List ℕ) (later : List (Bor (List ℕ))) (any : Bor (List ℕ)) (i : ℕ) → i < length later
    → are_flags_alone front ≡ false → None ≡ later_spot code subject above front (map (λ (line : Bor (List ℕ)). line.now) (drop i later))
no_spot code subject above front later any i lt more =
    let line : List ℕ = (get_or later i any).now in
    let lines : List (List ℕ) = map (λ (line : Bor (List ℕ)). line.now) (drop (i + 1) later) in
    sym (ap (λ (left : List (Bor (List ℕ))). later_spot code subject above front (map (λ (line : Bor (List ℕ)). line.now) left)) (drop_more later i any lt)
    ∙ ap (λ (b : Bool). if b then option_or (option_map (λ it. (above, it)) (pointed_later code subject line)) (later_spot code subject (above + 1) line lines) else None) more)
