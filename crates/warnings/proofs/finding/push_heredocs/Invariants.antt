use Rattle.std.proofs.Common.{◌≡◌, ◌++◌, drop}
use Rattle.std.specs.List.{filter_map}
use Rattle.warnings.specs.Warnings.{heredoc_warning}
use Rattle.warnings.proofs.finding.push_heredocs.Given as goal

-- the warnings so far and those that are left are all
abbrev pub invariant-loop-heredoc : goal.invariant-loop-heredoc
invariant-loop-heredoc l = l.found ++ filter_map (heredoc_warning l.escape l.line) (drop l.heredoc-index l.heredocs) ≡ l.fn.found ++ filter_map (heredoc_warning l.escape l.line) l.heredocs
