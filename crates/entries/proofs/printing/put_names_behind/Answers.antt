use Rattle.std.proofs.Common.{◌≡◌, ◌-◌, length, take, drop, ap, ◌∙◌, arith, rules}
use Rattle.std.proofs.lemmas.List.{take_all, length-drop}
use Rattle.counted.proofs.GatheringFacts.{says_as}
use Rattle.json.specs.Print.{escape}
use Rattle.paths.specs.Path.{rooted}
use Rattle.trees.specs.Rows.{lent_names}
use Rattle.entries.proofs.HeldFacts.{behind-some}
use Rattle.entries.proofs.printing.put_names_behind.Goals as goal

pub returns-else-is_empty-clause-says : goal.returns-else-is_empty-clause-says
returns-else-is_empty-clause-says g c =
    let names = c.args.names.now in
    let k = c.args.first in
    let some : length names ≡ 0 → ⊥ = first_of (search rules, grind (arith)) in
    let rest : take (length names - k) (drop k names) ≡ drop k names = take_all (length names - k) (drop k names) (omega (arith, length-drop k names)) in
    says_as c.put_names.ensures.says (ap (λ ns. escape (rooted (lent_names ns))) rest ∙ behind-some names k some)
