use Rattle.std.proofs.Common.{◌≡◌, drop}
use Rattle.options.proofs.ListLaws.{behind}
use Rattle.instructions.specs.Arg.{arguments_of}
use Rattle.instructions.specs.PrivateLent.{lent_arguments}
use Rattle.instructions.proofs.arg.read_arguments.Given as goal

abbrev pub invariant-loop-cut : goal.invariant-loop-cut
invariant-loop-cut l = behind l.found (arguments_of l.escape (lent_arguments (drop l.cut-index l.cuts))) ≡ arguments_of l.escape (lent_arguments l.cuts)
