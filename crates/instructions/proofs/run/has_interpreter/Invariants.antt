use Rattle.std.proofs.Common.{◌≡◌, drop}
use Rattle.std.specs.List.{list_any}
use Rattle.instructions.specs.Run.{names_interpreter}
use Rattle.instructions.proofs.run.has_interpreter.Given as goal

abbrev pub invariant-loop-heredoc : goal.invariant-loop-heredoc
invariant-loop-heredoc l = list_any (λ h. names_interpreter h.body) (drop l.heredoc-index l.heredocs) ≡ list_any (λ h. names_interpreter h.body) l.heredocs
