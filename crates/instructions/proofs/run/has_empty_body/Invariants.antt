use Rattle.std.proofs.Common.{◌≡◌, drop, length}
use Rattle.std.specs.Prelude.{◌==◌}
use Rattle.std.specs.List.{list_any}
use Rattle.instructions.proofs.run.has_empty_body.Given as goal

abbrev pub invariant-loop-heredoc : goal.invariant-loop-heredoc
invariant-loop-heredoc l = list_any (λ h. length h.body == 0) (drop l.heredoc-index l.heredocs) ≡ list_any (λ h. length h.body == 0) l.heredocs
