-- The index beside a list of contents: under the id of each cache the places that were entered under it. It may have other places there too, at which another
-- content stands or none, since a content is compared before it is found.
use Rattle.std.specs.Prelude.{◌≡◌, ℕ, ◌≤◌, Some, List, [], cond, slice_get}
use Rattle.std.specs.List.{Contains}
use Rattle.std.specs.Option.{unwrap_or}
use Rattle.std.specs.Ordering.{nat_cmp}
use Rattle.std.specs.Map.{lookup}
use Rattle.std.specs.BTreeMap.{is_at}
use Rattle.std.specs.Cmp.Lexicographic.{slice_cmp}
use Rattle.cachemounts.specs.declared.content.Content.{Content}

-- the places under an id, of a map's entries (own)
abbrev pub under : List (List ℕ × List ℕ) → List ℕ → List ℕ
under entries id = unwrap_or (lookup (is_at (slice_cmp nat_cmp id)) entries) []

-- under the id are these places now, and under every other id those that were there (own)
abbrev pub IsPut : List (List ℕ × List ℕ) → List (List ℕ × List ℕ) → List ℕ → List ℕ → Type 0
IsPut old new id places = (other : List ℕ) → lookup (is_at (slice_cmp nat_cmp other)) new ≡ cond (is_at (slice_cmp nat_cmp id) other) (Some places) (lookup (is_at (slice_cmp nat_cmp other)) old)

-- under each id are the places that were there, and maybe more (own)
abbrev pub Grows : List (List ℕ × List ℕ) → List (List ℕ × List ℕ) → Type 0
Grows old new = (id : List ℕ) (place : ℕ) → Contains (under old id) place → Contains (under new id) place

-- each content of a list from a place on has its place under its cache's id (own)
pub record AreEntered (entries : List (List ℕ × List ℕ)) (from : ℕ) (contents : List Content) : Type 0 where
  pub entered : (k : ℕ) (content : Content) → from ≤ k → slice_get contents k ≡ Some content → Contains (under entries content.id) k

-- each content of a list has its place under its cache's id (own)
pub record IsIndexed (contents : List Content) (entries : List (List ℕ × List ℕ)) : Type 0 where
  pub entered : (k : ℕ) (content : Content) → slice_get contents k ≡ Some content → Contains (under entries content.id) k
