-- What a folder's names leave of an ignore file's lines, for the paths right in the folder.
use Rattle.std.specs.Prelude.{◌≡◌, ◌+◌, ◌==◌, ℕ, Bool, true, false, Option, Some, None, List, [], ◌∷◌, ◌++◌, length, map, slice_get}
use Rattle.std.specs.Option.{IfSome}
use Rattle.ignorefile.specs.declared.line.Line.{Line}
use Rattle.ignorefile.specs.declared.index.Index.{Index}
use Rattle.ignorefile.specs.declared.index.Leaf.{Leaf}
use Rattle.ignorefile.specs.declared.index.Left.{Left}
use Rattle.ignorefile.specs.Line.{Relates}
use Rattle.ignorefile.specs.PrivateRanks.{LastEnds, RelatesAt, Member, AreInOrder}
use Rattle.ignorefile.specs.PrivatePositions.{under}
use Rattle.ignorefile.specs.PrivateIndex.{lying}

-- a line relates to no path right in a folder
abbrev pub IsDeadIn : Line → List (List ℕ) → Type 0
IsDeadIn line folder = (name : List ℕ) → Relates line (folder ++ name ∷ []) → ⊥

-- the line at this position relates to none
abbrev pub IsDeadAt : List Line → ℕ → List (List ℕ) → Type 0
IsDeadAt lines n folder = (name : List ℕ) → RelatesAt lines (folder ++ name ∷ []) n → ⊥

-- for a path, positions stand for others: they have each of those whose line relates to it
pub record StandFor (lines : List Line) (ns : List ℕ) (path : List (List ℕ)) (left : List ℕ) : Type 0 where
  pub order : AreInOrder (length lines) left
  pub there : (n : ℕ) → Member n ns → RelatesAt lines path n → Member n left

-- for each path right in a folder
abbrev pub StandIn : List Line → List ℕ → List (List ℕ) → List ℕ → Type 0
StandIn lines ns folder left = (name : List ℕ) → StandFor lines ns (folder ++ name ∷ []) left

abbrev pub positions_in : List Leaf → List ℕ
positions_in leaves = map (λ leaf. leaf.position) leaves

-- what a leaf says of the end of its line's paths is so
abbrev pub IsLeafOf : List Line → Leaf → Type 0
IsLeafOf lines leaf = (line : Line) → slice_get lines leaf.position ≡ Some line → IfSome leaf.end (λ byte. LastEnds line byte)

abbrev pub AreLeavesOf : List Line → List Leaf → Type 0
AreLeavesOf lines leaves = (i : ℕ) (leaf : Leaf) → slice_get leaves i ≡ Some leaf → IsLeafOf lines leaf

-- a path that ends in a name which ends with a byte has this one
abbrev pub IsLastByte : List (List ℕ) → Option ℕ → Type 0
IsLastByte path last = (front : List (List ℕ)) (begin : List ℕ) (byte : ℕ) → path ≡ front ++ (begin ++ byte ∷ []) ∷ [] → last ≡ Some byte

-- whether names that end with one byte may be those that end with another, or with any
abbrev pub may_take : Option ℕ → Option ℕ → Bool
may_take None last = true
may_take (Some byte) None = false
may_take (Some byte) (Some last) = last == byte

-- leaves have those of these positions whose lines relate to a path right in a folder
pub record AreLiving (lines : List Line) (ns : List ℕ) (folder : List (List ℕ)) (left : List Leaf) : Type 0 where
  pub stand : StandIn lines ns folder (positions_in left)
  pub known : AreLeavesOf lines left

-- what a folder leaves stands for the others, for those whose paths lie in folders of its name, and for those of the number of names that
-- the paths right in it have
pub record IsLeft (lines : List Line) (index : Index) (folder : List (List ℕ)) (left : Left) : Type 0 where
  pub lying : AreLiving lines (lying index.by_folder.entries folder) folder left.lying
  pub others : AreLiving lines index.others folder left.others
  pub counted : AreLiving lines (under index.by_count (length folder + 1)) folder left.counted
