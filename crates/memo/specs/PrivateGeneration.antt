-- How the entries of a generation are kept (own): each tree by its number, and of an entry the numbers of its trees.
use Rattle.std.specs.Prelude.{◌≡◌, ◌<◌, ℕ, Option, Some, List, [], ◌∷◌, ◌++◌, map, slice_get, slice_index_or}
use Rattle.std.specs.List.{All, Contains}
use Rattle.trees.specs.TreeMap.{TreeMap, empty_tree}
use Rattle.llb.specs.declared.op.Op.{Op}
use Rattle.memo.specs.declared.step.Step.{Step}
use Rattle.memo.specs.declared.index.Index.{Index}
use Rattle.memo.specs.declared.number.Age.{Age}
use Rattle.memo.specs.declared.number.TreeNumber.{TreeNumber}
use Rattle.memo.specs.Key.{key_of}
use Rattle.memo.specs.Memo.{Entry, GenerationValue, entry_of}
use Rattle.memo.specs.Numbers.{known_in}
use Rattle.memo.specs.PrivateIndex.{under}

-- the tree of a number
abbrev pub tree_at : List TreeMap → ℕ → TreeMap
tree_at trees number = slice_index_or trees number empty_tree

-- the trees of some numbers
abbrev pub trees_at : List TreeMap → List ℕ → List TreeMap
trees_at trees numbers = map (tree_at trees) numbers

-- the entry that is kept as this step
abbrev pub entry_at : List TreeMap → Step → Entry
entry_at trees step = entry_of step.op (trees_at trees step.inputs) (tree_at trees step.tree)

-- the entries that are kept as these
abbrev pub entries_at : List TreeMap → List Step → List Entry
entries_at trees steps = map (entry_at trees) steps

-- all these numbers are below the first one
abbrev pub AreBelow : ℕ → List ℕ → Type 0
AreBelow count numbers = All (λ number. number < count) numbers

-- the numbers of a step are those of trees, if there are so many
pub record IsPlaced (count : ℕ) (step : Step) : Type 0 where
  pub inputs : AreBelow count step.inputs
  pub tree : step.tree < count

-- those of each step are
abbrev pub ArePlaced : ℕ → List Step → Type 0
ArePlaced count steps = (k : ℕ) (step : Step) → slice_get steps k ≡ Some step → IsPlaced count step

-- each step has its number under its key
pub record IsIndexed (steps : List Step) (index : Index) : Type 0 where
  pub entered : (k : ℕ) (step : Step) → slice_get steps k ≡ Some step → Contains (under index (key_of step.op)) k

-- a step is kept for this operation on these trees
pub record IsFor (trees : List TreeMap) (op : Op) (inputs : List TreeMap) (step : Step) : Type 0 where
  pub same_op : step.op ≡ op
  pub same_inputs : trees_at trees step.inputs ≡ inputs

-- the step of an operation on the trees of some numbers, that gave the tree of a number
abbrev pub step_of : Op → List ℕ → ℕ → Step
step_of op inputs tree = record { op = op; inputs = inputs; tree = tree }

-- it stands among the steps
pub record Stands (steps : List Step) (step : Step) : Type 0 where
  pub place : ℕ
  pub there : slice_get steps place ≡ Some step

-- what is known of some trees tells the truth of one generation's: a number that is known is that of the tree at its place
abbrev pub Tells : Age → List TreeMap → List (Option TreeNumber) → List TreeMap → Type 0
Tells age kept known trees = (k number : ℕ) → known_in age (slice_get known k) ≡ Some number → slice_get kept number ≡ slice_get trees k

-- trees are others with more after them
pub record IsMore (old new : List TreeMap) : Type 0 where
  pub more : List TreeMap
  pub is : new ≡ old ++ more

-- at these numbers stand these trees, in their order
abbrev pub AreAt : List TreeMap → List ℕ → List TreeMap → Type 0
AreAt kept numbers trees = (k at : ℕ) → slice_get numbers k ≡ Some at → slice_get kept at ≡ slice_get trees k

-- a generation is another one with an entry more, and with trees
pub record AddsTo (old new : GenerationValue) (entry : Entry) : Type 0 where
  pub entries : new.entries ≡ old.entries ++ entry ∷ []
  pub trees : IsMore old.trees new.trees
