use Rattle.std.proofs.Common.{◌≡◌, drop}
use Rattle.std.specs.List.{list_any}
use Rattle.exported.specs.Following.{is_root}
use Rattle.exported.proofs.following.some_root.Given as goal

-- none so far
abbrev pub invariant-loop-path : goal.invariant-loop-path
invariant-loop-path l = list_any is_root (drop l.path-index l.paths) ≡ list_any is_root l.paths
