-- Where the bytes of a file lie (own).
use Rattle.std.specs.Prelude.{◌≤◌, ◌+◌, ℕ, List, drop, length, take}
use Rattle.std.specs.Arc.{arc_value}
use Rattle.trees.specs.declared.content.Stored.{Stored}
use Rattle.trees.specs.declared.content.Stored.TheVariants.{Short, Shared, Part}

-- the bytes, wherever they lie
abbrev pub stored_bytes : Stored → List ℕ
stored_bytes (Short few) = take few.len few.bytes
stored_bytes (Shared bytes) = arc_value bytes
stored_bytes (Part len from slab) = take len (drop from (arc_value slab))

-- a part of a slab lies within it
abbrev pub Fits : Stored → Type 0
Fits (Short few) = Unit {0}
Fits (Shared bytes) = Unit {0}
Fits (Part len from slab) = from + len ≤ length (arc_value slab)
