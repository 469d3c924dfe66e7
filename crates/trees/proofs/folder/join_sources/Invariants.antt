use Rattle.std.proofs.Common.{Bool, drop}
use Rattle.trees.specs.declared.folder.Joined.{Joined}
use Rattle.trees.specs.TreeMap.{TreeMap}
use Rattle.trees.specs.Copy.{changes_of}
use Rattle.trees.specs.PrivateCopy.{Comes}
use Rattle.trees.specs.PrivateNode.{map_of}
use Rattle.trees.proofs.folder.join_sources.Given as goal

-- what becomes from here of those that are left becomes of all from the start
abbrev pub invariant-loop-source : goal.invariant-loop-source
invariant-loop-source l =
    (into : Bool) (end : TreeMap) (came : Joined) → Comes l.dest (changes_of l.options into l.from l.dest (drop l.source-index l.sources)) (map_of l.joined) end came → Comes l.dest (changes_of l.options into l.from l.dest l.sources) (map_of l.fn.joined) end came
