-- What the private functions of contents say of a list of contents.
use Rattle.std.specs.Prelude.{◌≡◌, ℕ, ◌<◌, ◌≤◌, Bool, true, false, ◌&&◌, nat_lt, if◌then◌else◌, List, [], ◌∷◌, Some, None, IfSome, get_or, slice_get, Option}
use Rattle.std.specs.Option.{option_map_or}
use Rattle.trees.specs.TreeMap.{empty_tree}
use Rattle.cachemounts.specs.declared.content.Content.{Content}
use Rattle.cachemounts.specs.Content.{is_content}

-- where the first entry of a content is in a list (own)
pub record IsFirst (contents : List Content) (id : List ℕ) (slot : Option ℕ) (at : ℕ) : Type 0 where
  pub content : Content
  pub there : slice_get contents at ≡ Some content
  pub is : is_content id slot content ≡ true
  pub before : (k : ℕ) (other : Content) → k < at → slice_get contents k ≡ Some other → is_content id slot other ≡ false

-- contents that all have the empty tree (own)
abbrev pub AreEmpty : List Content → Type 0
AreEmpty [] = Unit {0}
AreEmpty (content ∷ contents) = (content.tree ≡ empty_tree) × AreEmpty contents

-- whether the content of a cache's slot stands at a place (own)
abbrev pub stands_at : List Content → List ℕ → Option ℕ → ℕ → Bool
stands_at contents id slot at = option_map_or (is_content id slot) (slice_get contents at) false

-- whether a place is before the one that was found, if one was (own)
abbrev pub is_before : ℕ → Option ℕ → Bool
is_before at None = true
is_before at (Some known) = nat_lt at known

-- the earlier one of a place, where the content stands there, and of the one that was found (own)
abbrev pub earlier : List Content → List ℕ → Option ℕ → Option ℕ → ℕ → Option ℕ
earlier contents id slot first at = if is_before at first && stands_at contents id slot at then Some at else first

-- a place was found, and it isn't after this one (own)
abbrev pub IsUpTo : Option ℕ → ℕ → Type 0
IsUpTo None at = ⊥
IsUpTo (Some first) at = first ≤ at

-- the first one of these places, of which there are `n`, at which the content of a cache's slot stands (own)
pub record IsFirstAmong (contents : List Content) (id : List ℕ) (slot : Option ℕ) (places : List ℕ) (n : ℕ) (first : Option ℕ) : Type 0 where
  pub stands : IfSome first (λ at. stands_at contents id slot at ≡ true)
  pub least : (k : ℕ) → k < n → stands_at contents id slot (get_or places k 0) ≡ true → IsUpTo first (get_or places k 0)
