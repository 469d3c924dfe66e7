-- What is in the contents of a store that begins with common contents.
use Rattle.std.specs.Prelude.{◌≡◌, ℕ, Bool, true, false, ◌&&◌, List, [], ◌∷◌, Option, Some, None, map, find, cond}
use Rattle.std.proofs.Common.{refl, ◌∙◌, sym}
use Rattle.std.specs.Option.{option_map_or}
use Rattle.trees.specs.TreeMap.{TreeMap, empty_tree}
use Rattle.cachemounts.specs.declared.content.Content.{Content}
use Rattle.cachemounts.specs.Holds.{same_id}
use Rattle.cachemounts.specs.Content.{is_content, common_content, tree_in, tree_at_first}

pub begins-with : (rows : List (List ℕ × TreeMap)) (id : List ℕ) (slot : Option ℕ) → tree_in (map common_content rows) id slot ≡ tree_at_first rows id slot
begins-with [] id None = refl
begins-with [] id (Some slot) = refl
begins-with (row ∷ rows) id None = by (begins-with rows id None) (same_id row.0 id) refl
  where
    by : tree_in (map common_content rows) id None ≡ tree_at_first rows id None → (b : Bool) → same_id row.0 id ≡ b → tree_in (map common_content (row ∷ rows)) id None ≡ tree_at_first (row ∷ rows) id None
    by more true e =
        (λ k. option_map_or (λ (content : Content). content.tree) (cond (e k && true) (Some (common_content row)) (find (is_content id None) (map common_content rows))) empty_tree)
        ∙ sym (λ k. option_map_or (λ (other : List ℕ × TreeMap). other.1) (cond (e k) (Some row) (find (λ (other : List ℕ × TreeMap). same_id other.0 id) rows)) empty_tree)
    by more false e =
        (λ k. option_map_or (λ (content : Content). content.tree) (cond (e k && true) (Some (common_content row)) (find (is_content id None) (map common_content rows))) empty_tree) ∙ more
        ∙ sym (λ k. option_map_or (λ (other : List ℕ × TreeMap). other.1) (cond (e k) (Some row) (find (λ (other : List ℕ × TreeMap). same_id other.0 id) rows)) empty_tree)
begins-with (row ∷ rows) id (Some slot) = by (begins-with rows id (Some slot)) (same_id row.0 id) refl
  where
    by : tree_in (map common_content rows) id (Some slot) ≡ empty_tree → (b : Bool) → same_id row.0 id ≡ b → tree_in (map common_content (row ∷ rows)) id (Some slot) ≡ empty_tree
    by more true e = (λ k. option_map_or (λ (content : Content). content.tree) (cond (e k && false) (Some (common_content row)) (find (is_content id (Some slot)) (map common_content rows))) empty_tree) ∙ more
    by more false e = (λ k. option_map_or (λ (content : Content). content.tree) (cond (e k && false) (Some (common_content row)) (find (is_content id (Some slot)) (map common_content rows))) empty_tree) ∙ more
