-- What a folder's bundle leaves out (own).
use Rattle.std.specs.Prelude.{◌≡◌, ◌⊎◌, ℕ, Bool, true, false, List, [], Some, Result, Ok, Err, slice_get, ⊤}
use Rattle.plain.specs.declared.fault.Fault.{Fault}
use Rattle.plain.specs.declared.fault.Fault.TheVariants.{Because, Memory}
use Rattle.trees.specs.declared.entry.Entry.TheVariants.{Directory, File}
use Rattle.trees.specs.Put.{put_into}
use Rattle.trees.specs.TreeMap.{TreeMap, directory_meta, file_meta}
use Rattle.ignorefile.specs.declared.fault.BadLine.{BadLine}
use Rattle.ignorefile.specs.declared.line.Line.{Line}
use Rattle.packing.specs.Packed.{Asked}
use Rattle.packing.specs.Ends.{IsBefore}
use Rattle.packing.specs.Leaving.{FileKind, FolderKind, IsPacked, Keeping, Kind, LeavesWhole, OtherKind, Place, has_bytes, keeping_of}
use Rattle.packing.specs.declared.fault.PackFault.{PackFault}

-- no line is an exception
abbrev pub ExceptNothing : List Line → Type 0
ExceptNothing lines = (n : ℕ) (line : Line) → slice_get lines n ≡ Some line → line.exception ≡ false

-- what reading an ignore file's bytes answers: how a folder is read by its lines, or the number of its first bad one
abbrev pub IsLeavingRead : Asked → Result (List Line) ℕ → Result Keeping (Fault BadLine) → Type 0
IsLeavingRead asked said (Ok keeping) = (said ≡ Ok keeping.lines) × (keeping ≡ keeping_of asked keeping.lines)
IsLeavingRead asked said (Err (Because bad)) = said ≡ Err bad.number
IsLeavingRead asked said (Err Memory) = ⊤

-- a walk goes on into a directory
abbrev pub is_walked : Kind → Bool
is_walked FileKind = false
is_walked FolderKind = true
is_walked OtherKind = false

-- a file is put at its path, with bytes where it has them
abbrev pub AddsFile : Keeping → Place → TreeMap → TreeMap → Type 0
AddsFile keeping path old new =
    (content : List ℕ) × ((has_bytes keeping path ≡ false → content ≡ []) × (put_into old path (File file_meta content) ≡ Ok new))

-- what is packed of a name is put at its path, by what it is
abbrev pub Adds : Keeping → Place → Kind → TreeMap → TreeMap → Type 0
Adds keeping path FileKind old new = AddsFile keeping path old new
Adds keeping path FolderKind old new = put_into old path (Directory directory_meta) ≡ Ok new
Adds keeping path OtherKind old new = (keeping.pass ≡ true) × (new ≡ old)

-- a name that is of a kind is taken, and whether it is walked on: it isn't packed, or it is, and put at its path
abbrev pub TakenAs : Keeping → Place → Kind → Bool → TreeMap → TreeMap → Type 0
TakenAs keeping path kind walked old new =
    (walked ≡ is_walked kind) × (((IsPacked keeping path → ⊥) × (new ≡ old)) ⊎ (IsPacked keeping path × Adds keeping path kind old new))

-- a name of a folder is taken: nothing at or below it is kept, and it is looked at no further; or it is of some kind
abbrev pub Taken : Keeping → Place → Bool → TreeMap → TreeMap → Type 0
Taken keeping path walked old new =
    (LeavesWhole keeping path × ((walked ≡ false) × (new ≡ old))) ⊎ ((kind : Kind) × TakenAs keeping path kind walked old new)

-- the same, where the machine gave all of it
abbrev pub TakesAs : Keeping → Place → Kind → Result Bool PackFault → TreeMap → TreeMap → Type 0
TakesAs keeping path kind (Ok walked) old new = TakenAs keeping path kind walked old new
TakesAs keeping path kind (Err fault) old new = IsBefore fault

abbrev pub Takes : Keeping → Place → Result Bool PackFault → TreeMap → TreeMap → Type 0
Takes keeping path (Ok walked) old new = Taken keeping path walked old new
Takes keeping path (Err fault) old new = IsBefore fault
