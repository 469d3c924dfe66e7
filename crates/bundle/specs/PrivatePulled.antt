-- What was found at the keys of an image and of a bundle that are read token by token.
use Rattle.std.specs.Prelude.{◌≡◌, ℕ, Bool, true, Option, Some, List, [], ◌∷◌, bytes_eq, codes}
use Rattle.std.specs.List.{list_any}
use Rattle.serde_json.specs.Data.{Data, Members}
use Rattle.serde_json.specs.Find.{get_member}
use Rattle.strict.specs.Strict.{has_only, at_most_one, rows_in}
use Rattle.borrowed.specs.Lent.{owned_data}
use Rattle.entries.specs.Listing.{listing_in}
use Rattle.bundle.specs.Parts.{image_in}
use Rattle.bundle.specs.declared.pulling.Found.{Found}
use Rattle.bundle.specs.declared.pulling.FoundImage.{FoundImage}

-- a key that an image may have
abbrev pub is_image_key : List ℕ → Bool
is_image_key key = list_any (λ known. bytes_eq known key) (codes "config" ∷ codes "digest" ∷ codes "tree" ∷ [])

-- some members have no other keys, and these are their values, or what they are read as
pub record FindsImage (found : FoundImage) (members : Members) : Type 0 where
  pub known : has_only is_image_key members ≡ true
  pub config : owned_data found.config ≡ get_member (codes "config") members
  pub digest : owned_data found.digest ≡ get_member (codes "digest") members
  pub tree : at_most_one listing_in (get_member (codes "tree") members) ≡ Some found.tree

-- a key that a bundle may have
abbrev pub is_bundle_key : List ℕ → Bool
is_bundle_key key =
    list_any (λ known. bytes_eq known key) (codes "args" ∷ codes "caches" ∷ codes "context" ∷ codes "dockerfile" ∷ codes "images" ∷ codes "target" ∷ [])

-- some members have no other keys, and these are their values, or what they are read as
pub record Finds {C : Type 0} (config : Data → Option C) (found : Found C) (members : Members) : Type 0 where
  pub known : has_only is_bundle_key members ≡ true
  pub args : owned_data found.args ≡ get_member (codes "args") members
  pub caches : at_most_one (rows_in listing_in) (get_member (codes "caches") members) ≡ Some found.caches
  pub context : at_most_one listing_in (get_member (codes "context") members) ≡ Some found.context
  pub dockerfile : owned_data found.dockerfile ≡ get_member (codes "dockerfile") members
  pub images : at_most_one (rows_in (image_in config)) (get_member (codes "images") members) ≡ Some found.images
  pub target : owned_data found.target ≡ get_member (codes "target") members
