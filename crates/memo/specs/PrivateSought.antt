-- The trees that an operation is asked for with (own).
use Rattle.std.specs.Prelude.{List, ◌++◌, map}
use Rattle.trees.specs.TreeMap.{TreeMap}
use Rattle.memo.specs.declared.sought.Sought.{Sought}

-- those that stand in one list, and after them those that are lent one by one
abbrev pub inputs_of : Sought → List TreeMap
inputs_of sought = sought.listed.now ++ map (λ lent. lent.now) sought.each.now
