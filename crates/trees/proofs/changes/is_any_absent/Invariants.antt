use Rattle.std.proofs.Common.{◌≡◌, drop}
use Rattle.std.specs.List.{list_any}
use Rattle.trees.specs.Copy.{is_absent}
use Rattle.trees.proofs.changes.is_any_absent.Given as goal

abbrev pub invariant-loop-path : goal.invariant-loop-path
invariant-loop-path l = list_any (is_absent l.from) (drop l.path-index l.paths) ≡ list_any (is_absent l.from) l.paths
