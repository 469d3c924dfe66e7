use Rattle.std.proofs.Common.{◌≡◌, ℕ, List, map, bytes_eq, is_some, ap, sym, ◌∙◌}
use Rattle.std.specs.List.{list_any}
use Rattle.json.specs.Value.{members_view}
use Rattle.serde_json.specs.Data.{object, no_members}
use Rattle.strict.specs.Strict.{has_only, strict}
use Rattle.borrowed.specs.Seen.{data_of, seen_members}
use Rattle.borrowed.proofs.LookFacts.{strict-object}
use Rattle.borrowed.proofs.SeenFacts.{data-Object}
use Rattle.borrowed.proofs.looking.is_strict.Goals as goal

pub returns-in-Object : goal.returns-in-Object
returns-in-Object c =
    let keys = map (λ k. k.now) c.args.keys.now in
    let test = λ (key : List ℕ). list_any (λ known. bytes_eq known key) keys in
    let ms = c.in-Object.members in
    let is : data_of c.args.value.now ≡ object (seen_members (members_view ms.items) no_members) = ap data_of c.in-Object.is ∙ data-Object ms in
    c.has_only.ensures ∙ ap (λ xs. has_only test (seen_members (members_view xs) no_members)) c.as_slice.ensures.value
    ∙ sym (ap (λ d. is_some (strict keys d)) is ∙ strict-object keys (seen_members (members_view ms.items) no_members))
