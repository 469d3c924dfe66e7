-- Where trees are in a definition (BuildKit's LLB, `Input`): the tree of a vertex is the first output of an operation, which is named by the
-- digest of its bytes, or it is the empty tree, which no operation makes. An operation speaks of its inputs by their numbers.
use Rattle.std.specs.Prelude.{ℕ, suc, ℤ, pos, negsuc, Option, Some, None, List, [], ◌∷◌, ◌++◌, codes, length, bytes_eq, ◌==◌, slice_index_or, if◌then◌else◌}
use Rattle.sha2.specs.Sha256.{sha256}
use Rattle.hex.specs.Hex.{encode_lower}

-- the digest of an operation, by its bytes (BuildKit; go-digest)
unfoldable pub digest_of : List ℕ → List ℕ
digest_of bytes = codes "sha256:" ++ encode_lower (sha256 bytes)

-- the number of a digest among others; how many they are where it isn't one of them
abbrev pub number_of : List (List ℕ) → List ℕ → ℕ
number_of [] digest = 0
number_of (first ∷ digests) digest = if bytes_eq first digest then 0 else suc (number_of digests digest)

-- digests with one more, if it isn't there
abbrev pub with_once : List (List ℕ) → List ℕ → List (List ℕ)
with_once digests digest = if number_of digests digest == length digests then digests ++ digest ∷ [] else digests

-- digests with that of a place; the empty tree has none
abbrev pub with_place : List (List ℕ) → Option (List ℕ) → List (List ℕ)
with_place digests None = digests
with_place digests (Some digest) = with_once digests digest

-- digests with those of some places that aren't there
abbrev pub inputs_after : List (List ℕ) → List (Option (List ℕ)) → List (List ℕ)
inputs_after digests [] = digests
inputs_after digests (place ∷ places) = inputs_after (with_place digests place) places

-- the inputs of an operation on the trees of these places: each operation once, in the order in which they stand first
abbrev pub inputs_of : List (Option (List ℕ)) → List (List ℕ)
inputs_of = inputs_after []

-- the number of the input that has the tree of a place; -1 for the empty tree
abbrev pub index_in : List (List ℕ) → Option (List ℕ) → ℤ
index_in digests None = negsuc 0
index_in digests (Some digest) = pos (number_of digests digest)

-- the same of the place of this number among some; -1 where there is none
abbrev pub index_at : List (List ℕ) → List (Option (List ℕ)) → ℕ → ℤ
index_at digests places number = index_in digests (slice_index_or places number None)
