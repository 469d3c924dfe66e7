use Rattle.std.proofs.Common.{◌≡◌, drop}
use Rattle.instructions.specs.Arg.{has_bad_name}
use Rattle.instructions.specs.PrivateLent.{lent_arguments}
use Rattle.instructions.proofs.arg.has_bad_name.Given as goal

abbrev pub invariant-loop-name : goal.invariant-loop-name
invariant-loop-name l = has_bad_name (lent_arguments (drop l.name-index l.cuts)) ≡ has_bad_name (lent_arguments l.cuts)
