-- What a merge is in a definition (BuildKit's LLB, `MergeOp`): the empty tree adds nothing to others.
use Rattle.std.specs.Prelude.{ℕ, ◌+◌, pos, Option, Some, None, List, [], ◌∷◌, ◌++◌}
use Rattle.llbmessages.specs.declared.op.MergeInput.{MergeInput}
use Rattle.llbmessages.specs.declared.op.MergeOp.{MergeOp}

-- digests with that of a place, if it isn't the empty tree's
abbrev pub with_tree : List (List ℕ) → Option (List ℕ) → List (List ℕ)
with_tree digests None = digests
with_tree digests (Some digest) = digests ++ digest ∷ []

-- digests with those of places that aren't the empty tree's
abbrev pub trees_after : List (List ℕ) → List (Option (List ℕ)) → List (List ℕ)
trees_after digests [] = digests
trees_after digests (place ∷ places) = trees_after (with_tree digests place) places

-- the digests of the trees that a merge lays over each other, in their order
abbrev pub trees_at : List (Option (List ℕ)) → List (List ℕ)
trees_at = trees_after []

-- the inputs of a merge by their numbers, from one on
abbrev pub merge_inputs : ℕ → List (List ℕ) → List MergeInput
merge_inputs number [] = []
merge_inputs number (digest ∷ digests) = record { input = pos number } ∷ merge_inputs (number + 1) digests

-- a merge of all inputs
unfoldable pub merge_of : List (List ℕ) → MergeOp
merge_of digests = record { inputs = merge_inputs 0 digests }
