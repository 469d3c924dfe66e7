-- The numbers of the trees that a memo keeps (own). A number is that of one tree, so who knows a tree's number need not compare the tree.
use Rattle.std.specs.Prelude.{◌≡◌, ℕ, Option, Some, None, List, slice_get}
use Rattle.trees.specs.TreeMap.{TreeMap}
use Rattle.memo.specs.declared.number.Age.{Age}
use Rattle.memo.specs.declared.number.Age.TheVariants.{Recent, Earlier}
use Rattle.memo.specs.declared.number.TreeNumber.{TreeNumber}
use Rattle.memo.specs.Memo.{GenerationValue, MemoValue}

-- one of the two generations of a memo
abbrev pub generation_of : {E : Type 0} → MemoValue E → Age → GenerationValue
generation_of memo Recent = memo.recent
generation_of memo Earlier = memo.earlier

-- the number that a tree of a generation has there
abbrev pub numbered : Age → ℕ → TreeNumber
numbered age at = record { age = age; at = at }

-- the tree of a number, if there is one
abbrev pub tree_numbered : {E : Type 0} → MemoValue E → TreeNumber → Option TreeMap
tree_numbered memo number = slice_get (generation_of memo number.age).trees number.at

-- of some trees, in their order, these numbers are known: where one is given, it is that of the tree at its place
abbrev pub AreKnown : {E : Type 0} → MemoValue E → List (Option TreeNumber) → List TreeMap → Type 0
AreKnown memo known trees = (k : ℕ) (number : TreeNumber) → slice_get known k ≡ Some (Some number) → tree_numbered memo number ≡ slice_get trees k

-- some trees, in their order, have these numbers in a generation
abbrev pub HaveNumbers : {E : Type 0} → MemoValue E → Age → List ℕ → List TreeMap → Type 0
HaveNumbers memo age numbers trees = (k at : ℕ) → slice_get numbers k ≡ Some at → tree_numbered memo (numbered age at) ≡ slice_get trees k

-- a number that was taken in one generation is looked at in another
abbrev pub at_in : Age → Age → ℕ → Option ℕ
at_in Recent Recent at = Some at
at_in Recent Earlier at = None
at_in Earlier Recent at = None
at_in Earlier Earlier at = Some at

-- what is known at a place is in one of the generations
abbrev pub known_in : Age → Option (Option TreeNumber) → Option ℕ
known_in age None = None
known_in age (Some None) = None
known_in age (Some (Some number)) = at_in age number.age number.at
