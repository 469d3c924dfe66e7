use Rattle.rewrite.proofs.RenameFacts.{Renames}
use Rattle.rewrite.proofs.joining.rename.Given as goal

abbrev pub invariant-loop-input : goal.invariant-loop-input
invariant-loop-input l = Renames l.names l.fn.inputs l.input-items l.input-index
