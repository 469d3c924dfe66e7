use Rattle.std.proofs.Common.{Bool, drop}
use Rattle.trees.specs.declared.folder.Joined.{Joined}
use Rattle.trees.specs.TreeMap.{TreeMap}
use Rattle.trees.specs.Copy.{paths_changes}
use Rattle.trees.specs.PrivateCopy.{Comes}
use Rattle.trees.specs.PrivateNode.{map_of}
use Rattle.trees.proofs.folder.join_paths.Given as goal

-- what becomes from here of those that are left becomes of all from the start
abbrev pub invariant-loop-path : goal.invariant-loop-path
invariant-loop-path l =
    (into : Bool) (end : TreeMap) (came : Joined) → Comes l.dest (paths_changes l.options into l.from l.dest (drop l.path-index l.paths)) (map_of l.joined) end came → Comes l.dest (paths_changes l.options into l.from l.dest l.paths) (map_of l.fn.joined) end came
