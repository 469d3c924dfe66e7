use Rattle.std.proofs.Common.{◌≡◌, drop}
use Rattle.std.specs.Prelude.{Some}
use Rattle.instructions.specs.Env.{has_bad_name}
use Rattle.instructions.specs.PrivateLent.{lent_pairs}
use Rattle.instructions.proofs.env.has_bad_name.Given as goal

abbrev pub invariant-loop-name : goal.invariant-loop-name
invariant-loop-name l = has_bad_name (Some (lent_pairs (drop l.name-index l.pairs))) ≡ has_bad_name (Some (lent_pairs l.pairs))
