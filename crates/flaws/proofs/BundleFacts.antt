-- Nothing is found wrong in an image, in what a build may name and in a bundle exactly if it is read.
use Rattle.std.proofs.Common.{◌≡◌, ℕ, List, [], ◌∷◌, Bool, true, false, ◌&&◌, cond, Option, Some, None, option_map, option_and_then, is_some, codes, map, length, nat_le, refl, ap, sym, ◌∙◌}
use Rattle.std.proofs.lemmas.Bool.{false≢true}
use Rattle.std.specs.List.{list_all}
use Rattle.std.specs.Str.{is_utf8}
use Rattle.std.specs.Str.Lossy.{utf8_valid_len}
use Rattle.std.specs.FinMap.{empty, from_entries}
use Rattle.serde_json.specs.Data.{Data, Members, no_members, member}
use Rattle.serde_json.specs.Find.{get, as_str, as_object}
use Rattle.serde_json.specs.Read.{read}
use Rattle.strict.specs.Strict.{has_only, strict, at_most_one, with_first, members_in, rows_in}
use Rattle.entries.specs.Listing.{listing_in}
use Rattle.bundle.specs.Digest.{digest_in}
use Rattle.bundle.specs.Parts.{or_none, dockerfile_in, files_with, files_in, image_with, image_at, image_in, is_image_name, read_with, images_in, no_images, args_in, cache_row, caches_in, named_with, named_in, parts_with, parts_in, parts_within}
use Rattle.bundle.specs.declared.parts.Parts.{Parts}
use Rattle.flaws.specs.Looks.{Looks, read_as, optional, required, keys_in, keys, no_other, members_in as found_in, rows}
use Rattle.flaws.specs.Flaws.{listing_flaw, dockerfile_flaw, image_flaw, images_flaw, files_flaw, named_flaw, bundle_flaw, json_flaw, flaw_within}
use Rattle.flaws.specs.declared.flaw.Flaw.{Flaw}
use Rattle.flaws.specs.declared.flaw.Flaw.TheVariants.{TooLong, NoText, At}
use Rattle.flaws.proofs.LookFacts.{fine, Suits, both, and_false, and_true, fine-or_else, fine-last, fine-map, fine-read_as, fine-optional, fine-or_none, fine-required, fine-keys_of, fine-no_other, fine-among_members, fine-rows, some-map}
use Rattle.flaws.proofs.EntryFacts.{fine-listing, fine-dockerfile}

-- ---- objects of any keys that are read further

fine-args : Suits (rows (read_as as_str)) args_in
unfolding args_in
fine-args d = fine-rows (read_as as_str) as_str (fine-read_as as_str) d ∙ sym (some-map (λ rows. from_entries rows) (rows_in as_str d))

fine-caches : Suits (rows listing_flaw) caches_in
unfolding caches_in
fine-caches d = fine-rows listing_flaw listing_in fine-listing d ∙ sym (some-map (λ rows. map cache_row rows) (rows_in listing_in d))

-- all rows have keys that pass a test
module _ {A : Type 0} (is_key : List ℕ → Bool) (reading : Data → Option A) where
  abbrev passed : Option (List (List ℕ × A)) → Bool
  passed None = false
  passed (Some rows) = list_all (λ row. is_key row.0) rows

  passed-first : (key : List ℕ) (b : Bool) (o : Option A) (rest : Option (List (List ℕ × A))) → passed rest ≡ b && is_some rest
      → passed (with_first (option_map (λ x. (key, x)) o) rest) ≡ (is_key key && b) && is_some (with_first (option_map (λ x. (key, x)) o) rest)
  passed-first key b None rest e = sym (and_false (is_key key && b))
  passed-first key b (Some x) None e = sym (and_false (is_key key && b))
  passed-first key b (Some x) (Some xs) e = ap (λ c. is_key key && c) (e ∙ and_true b) ∙ sym (and_true (is_key key && b))

  pub passed-members : (members : Members) → passed (members_in reading members) ≡ has_only is_key members && is_some (members_in reading members)
  passed-members no_members = refl
  passed-members (member key d members) = passed-first key (has_only is_key members) (reading d) (members_in reading members) (passed-members members)

  some-passed : {B : Type 0} → (f : List (List ℕ × A) → B) (o : Option (List (List ℕ × A)))
      → is_some (option_and_then (λ rows. cond (list_all (λ row. is_key row.0) rows) (Some (f rows)) None) o) ≡ passed o
  some-passed f None = refl
  some-passed f (Some rows) = if_all (list_all (λ row. is_key row.0) rows) (f rows)
    where
      if_all : {B : Type 0} → (b : Bool) (x : B) → is_some (cond b (Some x) None) ≡ b
      if_all true x = refl
      if_all false x = refl

  pub fine-keyed : {B : Type 0} → (looks : Looks) → Suits looks reading → (f : List (List ℕ × A) → B) (o : Option Members)
      → fine (keys_in is_key o) && fine (found_in looks o)
      ≡ is_some (option_and_then (λ rows. cond (list_all (λ row. is_key row.0) rows) (Some (f rows)) None) (option_and_then (members_in reading) o))
  fine-keyed looks suits f None = refl
  fine-keyed looks suits f (Some members) =
      both (fine-keys_of is_key members) (fine-among_members looks reading suits members) ∙ sym (passed-members members) ∙ sym (some-passed f (members_in reading members))

-- ---- images, and the bundle

image-some : {P M A : Type 0} → (s : Bool) (config : Option P) (tree : Option M) (f : P → M → A)
    → is_some (cond s (option_and_then (λ c. option_map (λ t. f c t) tree) config) None) ≡ s && (is_some config && is_some tree)
image-some false config tree f = refl
image-some true None tree f = refl
image-some true (Some c) None f = refl
image-some true (Some c) (Some t) f = refl

tested-some : {A : Type 0} → (s : Bool) (o : Option A) → is_some (cond s o None) ≡ s && is_some o
tested-some true o = refl
tested-some false o = refl

three-some : {X Y Z A : Type 0} → (x : Option X) (y : Option Y) (z : Option Z) (f : X → Y → Z → A)
    → is_some (option_and_then (λ a. option_and_then (λ b. option_map (λ c. f a b c) z) y) x) ≡ is_some x && (is_some y && is_some z)
three-some None y z f = refl
three-some (Some a) None z f = refl
three-some (Some a) (Some b) None f = refl
three-some (Some a) (Some b) (Some c) f = refl

abbrev image_keys : List (List ℕ)
image_keys = codes "config" ∷ codes "digest" ∷ codes "tree" ∷ []

abbrev bundle_keys : List (List ℕ)
bundle_keys = codes "args" ∷ codes "caches" ∷ codes "context" ∷ codes "dockerfile" ∷ codes "images" ∷ codes "target" ∷ []

fine-files : Suits files_flaw files_in
unfolding files_in
fine-files d =
    fine-or_else (required (codes "dockerfile") dockerfile_flaw d) _
    ∙ both (fine-required dockerfile_flaw dockerfile_in fine-dockerfile (codes "dockerfile") (get (codes "dockerfile") d))
    (fine-or_else (optional (codes "context") listing_flaw d) _
    ∙ both (fine-or_none listing_flaw listing_in fine-listing (codes "context") [] (get (codes "context") d))
    (fine-last (optional (codes "target") (read_as as_str) d) ∙ fine-optional (read_as as_str) as_str (fine-read_as as_str) (codes "target") (get (codes "target") d)))
    ∙ sym (three-some (option_and_then dockerfile_in (get (codes "dockerfile") d)) (or_none [] listing_in (get (codes "context") d)) (at_most_one as_str (get (codes "target") d)) files_with)

module _ {C : Type 0} (config : Data → Option C) where
  fine-image : Suits (image_flaw config) (image_in config)
  unfolding image_in
  fine-image d =
      fine-or_else (no_other image_keys d) _
      ∙ both (fine-no_other image_keys d)
      (fine-or_else (required (codes "config") (read_as config) d) _
      ∙ both (fine-required (read_as config) config (fine-read_as config) (codes "config") (get (codes "config") d))
      (fine-or_else (optional (codes "digest") (read_as digest_in) d) _
      ∙ both (fine-optional (read_as digest_in) digest_in (fine-read_as digest_in) (codes "digest") (get (codes "digest") d))
      (fine-last (required (codes "tree") listing_flaw d) ∙ fine-required listing_flaw listing_in fine-listing (codes "tree") (get (codes "tree") d)))
      ∙ sym (three-some (option_and_then config (get (codes "config") d)) (at_most_one digest_in (get (codes "digest") d)) (option_and_then listing_in (get (codes "tree") d)) image_with))
      ∙ sym (tested-some (is_some (strict image_keys d)) (image_at config (get (codes "config") d) (get (codes "digest") d) (get (codes "tree") d)))

  fine-images : Suits (images_flaw config) (images_in config)
  unfolding images_in rows_in
  fine-images d =
      fine-or_else (keys is_image_name d) _ ∙ ap (λ b. fine (keys is_image_name d) && b) (fine-last (rows (image_flaw config) d))
      ∙ fine-keyed is_image_name (image_in config) (image_flaw config) fine-image read_with (as_object d)

  fine-named : Suits (named_flaw config) (named_in config)
  unfolding named_in
  fine-named d =
      fine-or_else (optional (codes "images") (images_flaw config) d) _
      ∙ both (fine-or_none (images_flaw config) (images_in config) fine-images (codes "images") no_images (get (codes "images") d))
      (fine-or_else (optional (codes "args") (rows (read_as as_str)) d) _
      ∙ both (fine-or_none (rows (read_as as_str)) args_in fine-args (codes "args") empty (get (codes "args") d))
      (fine-last (optional (codes "caches") (rows listing_flaw) d) ∙ fine-or_none (rows listing_flaw) caches_in fine-caches (codes "caches") [] (get (codes "caches") d)))
      ∙ sym (three-some (or_none no_images (images_in config) (get (codes "images") d)) (or_none empty args_in (get (codes "args") d)) (or_none [] caches_in (get (codes "caches") d)) named_with)

  fine-bundle : Suits (bundle_flaw config) (parts_in config)
  unfolding parts_in
  fine-bundle d =
      fine-or_else (no_other bundle_keys d) _
      ∙ both (fine-no_other bundle_keys d)
      (fine-or_else (files_flaw d) _ ∙ both (fine-files d) (fine-last (named_flaw config d) ∙ fine-named d))
      ∙ sym (image-some (is_some (strict bundle_keys d)) (files_in d) (named_in config d) parts_with)

  -- ---- the bytes

  fine-json : (o : Option Data) → fine (json_flaw config o) ≡ is_some (option_and_then (parts_in config) o)
  fine-json None = refl
  fine-json (Some d) = fine-map At (bundle_flaw config d) ∙ fine-bundle d

  fine-tests : (short text : Bool) (flaw : Option Flaw) (after : ℕ) (parts : Option (Parts C)) → fine flaw ≡ is_some parts
      → fine (cond short (cond text flaw (Some (NoText after))) (Some TooLong)) ≡ is_some (cond short (cond text parts None) None)
  fine-tests false text flaw after parts e = refl
  fine-tests true false flaw after parts e = refl
  fine-tests true true flaw after parts e = e

  fine-within : (most : ℕ) (bytes : List ℕ) → fine (flaw_within most config bytes) ≡ is_some (parts_within most config bytes)
  unfolding flaw_within parts_within
  fine-within most bytes =
      fine-tests (nat_le (length bytes) most) (is_utf8 bytes) (json_flaw config (read bytes)) (utf8_valid_len bytes) (option_and_then (parts_in config) (read bytes)) (fine-json (read bytes))

  -- one is there exactly if the other isn't
  either : {A B : Type 0} → (o : Option A) (p : Option B) → fine o ≡ is_some p → (o ≡ None → (x : B) × (p ≡ Some x)) × (((x : B) × (p ≡ Some x)) → o ≡ None)
  either None None e = (λ h. absurd (false≢true (sym e)), λ h. refl)
  either None (Some x) e = (λ h. (x, refl), λ h. refl)
  either (Some a) None e = (λ h. absurd (cc), λ h. absurd (cc))
  either (Some a) (Some x) e = absurd (false≢true e)

  pub no_flaw : (most : ℕ) (bytes : List ℕ) → (flaw_within most config bytes ≡ None → (parts : Parts C) × (parts_within most config bytes ≡ Some parts))
      × (((parts : Parts C) × (parts_within most config bytes ≡ Some parts)) → flaw_within most config bytes ≡ None)
  no_flaw most bytes = either (flaw_within most config bytes) (parts_within most config bytes) (fine-within most bytes)
