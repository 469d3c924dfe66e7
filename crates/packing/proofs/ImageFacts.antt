-- What JSON is an image, and which names images may have.
use Rattle.std.proofs.Common.{◌≡◌, ◌≤◌, ◌++◌, ◌∙◌, ℕ, Bool, true, false, not, cond, List, [], ◌∷◌, Option, Some, None, Result, Ok, Err, Vec, Global, String, string_bytes, rules, refl, sym, ap, subst, arith, bytes_eq, is_some, unwrap_or, length, take, drop, take_all, ◌-◌, codes}
use Rattle.std.specs.Prelude.{◌||◌, slice_index_or, if◌then◌else◌, IfOk}
use Rattle.std.specs.List.{list_all, list_any}
use Rattle.std.specs.Option.{option_and_then, option_map}
use Rattle.std.proofs.lemmas.Bool.{and_from, and_parts, not_from_false}
use Rattle.serde_json.specs.Data.{Data, array, depth, no_items, string}
use Rattle.serde_json.specs.Find.{as_array, as_str, get}
use Rattle.serde_json.specs.Read.{read}
use Rattle.serde_json.specs.View.{items_view, view}
use Rattle.serde_json.specs.Written.{has_float}
use Rattle.serde_json.specs.declared.value.Value.{Array, String as Told, Value, the_lemmas}
use Rattle.serde_json.proofs.Views.{view-Array}
use Rattle.plain.specs.declared.fault.Fault.{Fault}
use Rattle.plain.specs.declared.fault.Fault.TheVariants.{Because, Memory}
use Rattle.strict.specs.Gives.{TellsFault}
use Rattle.strict.specs.Strict.{at_most_one, list_in}
use Rattle.strict.specs.declared.fault.NotRead.{NotRead}
use Rattle.trees.specs.Row.{Row}
use Rattle.entries.specs.Listing.{is_listing, listing_in}
use Rattle.imageconfig.specs.Reading.{config_in}
use Rattle.imageconfig.specs.declared.config.Config.{Config}
use Rattle.scopes.specs.Scope.{names_differ}
use Rattle.bundle.specs.declared.parts.ListedImage.{ListedImage}
use Rattle.bundle.specs.Digest.{digest_in, is_digest}
use Rattle.bundle.specs.Parts.{image_in, image_with, is_image_name}
use Rattle.borrowed.specs.Lent.{items_data}
use Rattle.borrowed.specs.Seen.{data_of}
use Rattle.json.specs.declared.value.Value.{Value as Lent}
use Rattle.packing.specs.Layout.{chosen, digest_at, layout_image, named_by, named_in}
use Rattle.packing.specs.declared.layout.Named.{Named}
use Rattle.packing.specs.declared.fault.PackFault.{PackFault}
use Rattle.packing.specs.Images.{are_names, bare_image, config_data, given_in, if_image, image_data, image_of, is_even, is_image, most_depth, inspected, names_of, only_item}
use Rattle.packing.specs.PrivateImages.{GivesJson, given_names, if_even, image_rows, is_among}
use Rattle.packing.proofs.EvenFacts.{even_parts}

-- what the JSON of an image has
pub image_even : (d : Data) → is_image d ≡ true → (has_float d ≡ false) × (depth d ≤ most_depth)
unfolding is_image
image_even d e = even_parts most_depth d (and_parts (is_some (image_in config_in d)) (is_even most_depth d) e).1

-- ---- an image of a configuration, of a digest, if it has one, and of a tree

-- what is read of all three
abbrev parts_read : Option Config → Option (Option (List ℕ)) → Option (List Row) → Option (ListedImage Config)
parts_read c d t = option_and_then (λ config. option_and_then (λ digest. option_map (λ tree. image_with config digest tree) t) d) c

all_parts : (config : Data) (digest : Option Data) (tree : Data)
    → image_in config_in (image_data config digest tree) ≡ parts_read (config_in config) (at_most_one digest_in digest) (listing_in tree)
unfolding image_in
all_parts config None tree = refl
all_parts config (Some digest) tree = refl

read_at : (c : Option Config) (d : Option (Option (List ℕ))) (t : Option (List Row)) → is_some c ≡ true → is_some d ≡ true → is_some t ≡ true
    → is_some (parts_read c d t) ≡ true
read_at None d t e f g = e
read_at (Some c) None t e f g = f
read_at (Some c) (Some d) None e f g = g
read_at (Some c) (Some d) (Some t) e f g = refl

is_read : (config : Data) (digest : Option Data) (tree : Data) → is_some (config_in config) ≡ true → is_some (at_most_one digest_in digest) ≡ true
    → is_some (listing_in tree) ≡ true → is_some (image_in config_in (image_data config digest tree)) ≡ true
is_read config digest tree e f g = ap is_some (all_parts config digest tree) ∙ read_at (config_in config) (at_most_one digest_in digest) (listing_in tree) e f g

-- all are read, and the rest is told by whether it is even
pub read_image : (config : Data) (digest : Option Data) (tree : Data) → is_some (config_in config) ≡ true → is_some (at_most_one digest_in digest) ≡ true
    → is_some (listing_in tree) ≡ true → if_image (image_data config digest tree) ≡ if_even (image_data config digest tree)
unfolding is_image
read_image config digest tree e f g = rw (is_read config digest tree e f g) refl

-- what isn't read is no image
unread : (d : Data) → is_some (image_in config_in d) ≡ false → if_image d ≡ None
unfolding is_image
unread d e = rw e refl

unread_config : (c : Option Config) (d : Option (Option (List ℕ))) (t : Option (List Row)) → c ≡ None → is_some (parts_read c d t) ≡ false
unread_config c d t e = rw e refl

unread_digest : (c : Option Config) (d : Option (Option (List ℕ))) (t : Option (List Row)) → d ≡ None → is_some (parts_read c d t) ≡ false
unread_digest None d t e = refl
unread_digest (Some c) d t e = rw e refl

unread_tree : (c : Option Config) (d : Option (Option (List ℕ))) (t : Option (List Row)) → t ≡ None → is_some (parts_read c d t) ≡ false
unread_tree None d t e = refl
unread_tree (Some c) None t e = refl
unread_tree (Some c) (Some d) t e = rw e refl

-- a fault of one of the readers is one of all
module _ (config : Data) (digest : Option Data) (tree : Data) where
  pub tells_config : (e : Fault NotRead) → TellsFault e (config_in config) → TellsFault e (if_image (image_data config digest tree))
  tells_config (Because fault) none =
      unread (image_data config digest tree) (ap is_some (all_parts config digest tree) ∙ unread_config (config_in config) (at_most_one digest_in digest) (listing_in tree) none)
  tells_config Memory none = tt

  pub tells_digest : (e : Fault NotRead) → TellsFault e (at_most_one digest_in digest) → TellsFault e (if_image (image_data config digest tree))
  tells_digest (Because fault) none =
      unread (image_data config digest tree) (ap is_some (all_parts config digest tree) ∙ unread_digest (config_in config) (at_most_one digest_in digest) (listing_in tree) none)
  tells_digest Memory none = tt

  pub tells_tree : (e : Fault NotRead) → TellsFault e (listing_in tree) → TellsFault e (if_image (image_data config digest tree))
  tells_tree (Because fault) none =
      unread (image_data config digest tree) (ap is_some (all_parts config digest tree) ∙ unread_tree (config_in config) (at_most_one digest_in digest) (listing_in tree) none)
  tells_tree Memory none = tt

  pub gives_read : (result : Result Value (Fault NotRead)) (copy : Data) → config ≡ copy → is_some (config_in config) ≡ true → is_some (at_most_one digest_in digest) ≡ true
      → is_some (listing_in tree) ≡ true → GivesJson result (if_even (image_data copy digest tree)) → GivesJson result (if_image (image_data config digest tree))
  gives_read result copy same e f g gives =
      subst (GivesJson result) (sym (read_image config digest tree e f g ∙ ap (λ d. if_even (image_data d digest tree)) same)) gives

-- the empty list is that of the empty tree
pub empty_is_read : is_some (listing_in (array no_items)) ≡ true
unfolding listing_in list_in is_listing
empty_is_read = refl

pub empty_list_is_read : (v : Vec Value Global) → v.items ≡ [] → is_some (listing_in (view (Array v))) ≡ true
empty_list_is_read v e =
    let at : view (Array v) ≡ array no_items = view-Array v ∙ ap (λ vs. array (items_view vs)) e in
    subst (λ d. is_some (listing_in d) ≡ true) (sym at) empty_is_read

-- an image of a configuration that was read, without a digest and with the empty tree
pub gives_bare : (result : Result Value (Fault NotRead)) (config : Data) (found : Config) (v : Vec Value Global) → v.items ≡ [] → config_in config ≡ Some found
    → GivesJson result (if_even (image_data config None (view (Array v)))) → GivesJson result (if_image (bare_image config))
gives_bare result config found v empty is gives =
    let tree : view (Array v) ≡ array no_items = view-Array v ∙ ap (λ vs. array (items_view vs)) empty in
    subst (λ t. GivesJson result (if_image (image_data config None t))) tree
    (gives_read config None (view (Array v)) result config refl (ap is_some is) refl (empty_list_is_read v empty) gives)

pub tells_bare : (config : Data) (e : Fault NotRead) → TellsFault e (config_in config) → TellsFault e (if_image (bare_image config))
tells_bare config = tells_config config None (array no_items)

-- ---- an image that was inspected

pub tells_inspected : (e : Fault NotRead) (config : Option Data) → TellsFault e config → TellsFault e (option_and_then if_image (option_map bare_image config))
tells_inspected (Because fault) config none = ap (λ o. option_and_then if_image (option_map bare_image o)) none
tells_inspected Memory config none = tt

-- the same, of what stands at the four keys
abbrev inspected_of : Option Data → Option Data → Option Data → Option Data → Option Data
inspected_of a c o l =
    option_and_then (λ architecture. option_and_then (λ config. option_and_then (λ os. option_map (λ layers. config_data architecture config os layers) l) o) c) a

no_config : (a o l : Option Data) → inspected_of a None o l ≡ None
no_config None o l = refl
no_config (Some a) o l = refl

no_os : (a c l : Option Data) → inspected_of a c None l ≡ None
no_os None c l = refl
no_os (Some a) None l = refl
no_os (Some a) (Some c) l = refl

no_layers : (a c o : Option Data) → inspected_of a c o None ≡ None
no_layers None c o = refl
no_layers (Some a) None o = refl
no_layers (Some a) (Some c) None = refl
no_layers (Some a) (Some c) (Some o) = refl

module _ (d : Data) where
  abbrev a_at : Option Data
  a_at = get (codes "Architecture") d

  abbrev c_at : Option Data
  c_at = get (codes "Config") d

  abbrev o_at : Option Data
  o_at = get (codes "Os") d

  abbrev l_at : Option Data
  l_at = option_and_then (get (codes "Layers")) (get (codes "RootFS") d)

  pub tells_architecture : (e : Fault NotRead) → TellsFault e (get (codes "Architecture") d) → TellsFault e (inspected d)
  unfolding inspected
  tells_architecture (Because fault) none = ap (λ a. inspected_of a c_at o_at l_at) none
  tells_architecture Memory none = tt

  pub tells_inner_config : (e : Fault NotRead) → TellsFault e (get (codes "Config") d) → TellsFault e (inspected d)
  unfolding inspected
  tells_inner_config (Because fault) none = ap (λ c. inspected_of a_at c o_at l_at) none ∙ no_config a_at o_at l_at
  tells_inner_config Memory none = tt

  pub tells_os : (e : Fault NotRead) → TellsFault e (get (codes "Os") d) → TellsFault e (inspected d)
  unfolding inspected
  tells_os (Because fault) none = ap (λ o. inspected_of a_at c_at o l_at) none ∙ no_os a_at c_at l_at
  tells_os Memory none = tt

  pub tells_layers : (e : Fault NotRead) → TellsFault e (option_and_then (get (codes "Layers")) (get (codes "RootFS") d)) → TellsFault e (inspected d)
  unfolding inspected
  tells_layers (Because fault) none = ap (λ l. inspected_of a_at c_at o_at l) none ∙ no_layers a_at c_at o_at
  tells_layers Memory none = tt

  pub gives_inspected : (a c o l v : Data) → get (codes "Architecture") d ≡ Some a → get (codes "Config") d ≡ Some c → get (codes "Os") d ≡ Some o
      → option_and_then (get (codes "Layers")) (get (codes "RootFS") d) ≡ Some l → v ≡ config_data a c o l → inspected d ≡ Some v
  unfolding inspected
  gives_inspected a c o l v is_a is_c is_o is_l is =
      ap (λ x. inspected_of x c_at o_at l_at) is_a ∙ ap (λ x. inspected_of (Some a) x o_at l_at) is_c ∙ ap (λ x. inspected_of (Some a) (Some c) x l_at) is_o
      ∙ ap (λ x. inspected_of (Some a) (Some c) (Some o) x) is_l ∙ ap (λ x. Some x) (sym is)

-- ---- the image of a layout

abbrev named_as : Bool → List ℕ → Named
named_as is_config digest = record { is_config = is_config; digest = digest }

pub names_image : (d images image : Data) (named : Named) → Some images ≡ get (codes "manifests") d → Some image ≡ option_and_then chosen (as_array images)
    → digest_at (Some image) ≡ Some named.digest → named.is_config ≡ false → named_in d ≡ Some named
unfolding named_in
names_image d images image named found taken digest kind =
    ap (named_by d) (sym found) ∙ ap (λ o. option_map (named_as false) (digest_at o)) (sym taken) ∙ ap (option_map (named_as false)) digest
    ∙ ap (λ k. Some (named_as k named.digest)) (sym kind)

pub names_config : (d config : Data) (named : Named) → None ≡ get (codes "manifests") d → Some config ≡ get (codes "config") d
    → digest_at (Some config) ≡ Some named.digest → named.is_config ≡ true → named_in d ≡ Some named
unfolding named_in
names_config d config named none found digest kind =
    ap (named_by d) (sym none) ∙ ap (λ o. option_map (named_as true) (digest_at o)) (sym found) ∙ ap (option_map (named_as true)) digest
    ∙ ap (λ k. Some (named_as k named.digest)) (sym kind)

pub names_image_result : (d images image : Data) (result : Result Named PackFault) → Some images ≡ get (codes "manifests") d
    → Some image ≡ option_and_then chosen (as_array images) → IfOk result (λ named. (digest_at (Some image) ≡ Some named.digest) × (named.is_config ≡ false))
    → IfOk result (λ named. named_in d ≡ Some named)
names_image_result d images image (Ok named) found taken is = names_image d images image named found taken is.0 is.1
names_image_result d images image (Err fault) found taken is = tt

pub names_config_result : (d config : Data) (result : Result Named PackFault) → None ≡ get (codes "manifests") d → Some config ≡ get (codes "config") d
    → IfOk result (λ named. (digest_at (Some config) ≡ Some named.digest) × (named.is_config ≡ true)) → IfOk result (λ named. named_in d ≡ Some named)
names_config_result d config (Ok named) none found is = names_config d config named none found is.0 is.1
names_config_result d config (Err fault) none found is = tt

pub digest_of : (file value : Data) (digest : List ℕ) → Some value ≡ get (codes "digest") file → digest_in value ≡ Some digest → digest_at (Some file) ≡ Some digest
digest_of file value digest found is = ap (option_and_then digest_in) (sym found) ∙ is

pub view_text : (s : String Global) → view (Told s) ≡ string (string_bytes s)
view_text s = search (rules, the_lemmas)

digest_is : (text : List ℕ) → is_digest text ≡ true → digest_in (string text) ≡ Some text
unfolding digest_in
digest_is text is = rw is refl

pub digest_is_read : (text : List ℕ) (digest : Data) → digest ≡ string text → is_digest text ≡ true → is_some (at_most_one digest_in (Some digest)) ≡ true
digest_is_read text digest same is = rw (same, digest_is text is) refl

pub digest_was_read : (d : Data) (text : List ℕ) → digest_in d ≡ Some text → is_digest text ≡ true
unfolding digest_in
digest_was_read d text e = go (as_str d) e
  where
    by : (found : List ℕ) (b : Bool) → is_digest found ≡ b → cond b (Some found) None ≡ Some text → is_digest text ≡ true
    by found true is e = subst (λ t. is_digest t ≡ true) (ap (λ (o : Option (List ℕ)). unwrap_or o found) e) is
    by found false is e = cc

    go : (o : Option (List ℕ)) → option_and_then (λ found. if is_digest found then Some found else None) o ≡ Some text → is_digest text ≡ true
    go None e = cc
    go (Some found) e = by found (is_digest found) refl e

pub digest_at_is : (file : Option Data) (text : List ℕ) → digest_at file ≡ Some text → is_digest text ≡ true
digest_at_is file text e = go (option_and_then (get (codes "digest")) file) e
  where
    go : (o : Option Data) → option_and_then digest_in o ≡ Some text → is_digest text ≡ true
    go None e = cc
    go (Some d) e = digest_was_read d text e

pub named_is : (d : Data) (named : Named) → named_in d ≡ Some named → is_digest named.digest ≡ true
unfolding named_in
named_is d named e = by (get (codes "manifests") d) e
  where
    some : (is_config : Bool) (found : Option (List ℕ)) → ((text : List ℕ) → found ≡ Some text → is_digest text ≡ true)
        → option_map (λ digest. record { is_config = is_config; digest = digest }) found ≡ Some named → is_digest named.digest ≡ true
    some is_config None all e = cc
    some is_config (Some text) all e =
        subst (λ (n : Named). is_digest n.digest ≡ true) (ap (λ (o : Option Named). unwrap_or o named) e) (all text refl)

    by : (images : Option Data) → named_by d images ≡ Some named → is_digest named.digest ≡ true
    by None e = some true (digest_at (get (codes "config") d)) (digest_at_is (get (codes "config") d)) e
    by (Some images) e = some false (digest_at (option_and_then chosen (as_array images))) (digest_at_is (option_and_then chosen (as_array images))) e

pub named_result : (d : Data) (result : Result Named PackFault) → IfOk result (λ named. named_in d ≡ Some named) → IfOk result (λ named. is_digest named.digest ≡ true)
named_result d (Ok named) is = named_is d named is
named_result d (Err fault) is = tt

pub layout_is : (digest : List ℕ) (config : Option Data) (d : Data) → layout_image digest config ≡ Some d → is_image d ≡ true
layout_is digest None d e = cc
layout_is digest (Some config) d e = by (image_data config (Some (string digest)) (array no_items)) (is_image (image_data config (Some (string digest)) (array no_items))) refl e
  where
    by : (given : Data) (b : Bool) → is_image given ≡ b → cond b (Some given) None ≡ Some d → is_image d ≡ true
    by given true is e = subst (λ x. is_image x ≡ true) (ap (λ (o : Option Data). unwrap_or o given) e) is
    by given false is e = cc

pub gives_layout : (result : Result Value (Fault NotRead)) (text : List ℕ) (digest : Data) (config : Data) (found : Option Data) (v : Vec Value Global) → v.items ≡ []
    → digest ≡ string text → found ≡ Some config → GivesJson result (if_image (image_data config (Some digest) (view (Array v)))) → GivesJson result (layout_image text found)
gives_layout result text digest config found v empty same is gives =
    let tree : view (Array v) ≡ array no_items = view-Array v ∙ ap (λ vs. array (items_view vs)) empty in
    subst (λ f. GivesJson result (layout_image text f)) (sym is)
    (subst (λ t. GivesJson result (if_image (image_data config (Some (string text)) t))) tree
    (subst (λ x. GivesJson result (if_image (image_data config (Some x) (view (Array v))))) same gives))

pub tells_layout : (e : Fault NotRead) (text : List ℕ) (found : Option Data) → TellsFault e found → TellsFault e (layout_image text found)
tells_layout (Because fault) text found none = ap (layout_image text) none
tells_layout Memory text found none = tt

-- ---- a list of one value

pub only_of_one : {A : Type 0} (vs : List (Lent A)) (v : Lent A) → length vs ≡ 1 → v ≡ slice_index_or vs 0 v → Some (data_of v) ≡ only_item (items_data vs)
only_of_one [] v one is = absurd (omega (arith, one))
only_of_one (x ∷ []) v one is = ap (λ y. Some (data_of y)) is
only_of_one (x ∷ y ∷ vs) v one is = absurd (omega (arith, one))

pub only_of_others : {A : Type 0} (vs : List (Lent A)) → (length vs ≡ 1 → ⊥) → only_item (items_data vs) ≡ None
only_of_others [] other = refl
only_of_others (x ∷ []) other = absurd (other refl)
only_of_others (x ∷ y ∷ vs) other = refl

-- what a text gives is an image
pub image_is : (text : List ℕ) (d : Data) → image_of text ≡ Some d → is_image d ≡ true
unfolding image_of
image_is text d e = go (option_and_then given_in (read text)) e
  where
    by : (given : Data) (b : Bool) → is_image given ≡ b → cond b (Some given) None ≡ Some d → is_image d ≡ true
    by given true is e = subst (λ x. is_image x ≡ true) (ap (λ (o : Option Data). unwrap_or o given) e) is
    by given false is e = cc

    go : (o : Option Data) → option_and_then if_image o ≡ Some d → is_image d ≡ true
    go None e = cc
    go (Some given) e = by given (is_image given) refl e

-- ---- names

among_same : (name : List ℕ) (images : List (List ℕ × List ℕ)) → is_among name images ≡ list_any (bytes_eq name) (given_names images)
among_same name [] = refl
among_same name (image ∷ images) = ap (λ later. bytes_eq name image.0 || later) (among_same name images)

-- a name before others
pub names_step : (image : List ℕ × List ℕ) (images : List (List ℕ × List ℕ)) → is_image_name image.0 ≡ true → is_among image.0 images ≡ false
    → are_names (given_names images) ≡ true → are_names (given_names (image ∷ images)) ≡ true
names_step image images named new more =
    let parts = and_parts (list_all is_image_name (given_names images)) (names_differ (given_names images)) more in
    let other : list_any (bytes_eq image.0) (given_names images) ≡ false = sym (among_same image.0 images) ∙ new in
    and_from (list_all is_image_name (given_names (image ∷ images))) (names_differ (given_names (image ∷ images)))
    (and_from (is_image_name image.0) (list_all is_image_name (given_names images)) named parts.0)
    (and_from (not (list_any (bytes_eq image.0) (given_names images))) (names_differ (given_names images)) (not_from_false _ other) parts.1)

pub names_left : (images left : List (List ℕ × List ℕ)) (image : List ℕ × List ℕ) → (are_names (given_names left) ≡ true → are_names (given_names images) ≡ true)
    → 1 ≤ length left → image ≡ slice_index_or left 0 image → is_image_name image.0 ≡ true → is_among image.0 (take (length left - 1) (drop 1 left)) ≡ false
    → are_names (given_names (take (length left - 1) (drop 1 left))) ≡ true → are_names (given_names images) ≡ true
names_left images [] image so_far long is named new more = absurd (omega arith)
names_left images (one ∷ rest) image so_far long is named new more =
    let same : take (length {A = List ℕ × List ℕ} (one ∷ rest) - 1) rest ≡ rest = take_all (length {A = List ℕ × List ℕ} (one ∷ rest) - 1) rest (omega arith) in
    let name : image.0 ≡ one.0 = ap (λ (i : List ℕ × List ℕ). i.0) is in
    let other : is_among one.0 rest ≡ false = subst (λ r. is_among one.0 r ≡ false) same (subst (λ n. is_among n (take (length {A = List ℕ × List ℕ} (one ∷ rest) - 1) rest) ≡ false) name new) in
    so_far (names_step one rest (subst (λ n. is_image_name n ≡ true) name named) other (subst (λ r. are_names (given_names r) ≡ true) same more))

-- ---- images that are read one after another

pub names_more : (found : List (List ℕ × Value)) (row : List ℕ × Value) (rest : List (List ℕ)) → names_of (image_rows (found ++ row ∷ [])) ++ rest ≡ names_of (image_rows found) ++ row.0 ∷ rest
names_more [] row rest = refl
names_more (one ∷ found) row rest = ap (λ later. one.0 ∷ later) (names_more found row rest)

pub images_more : (found : List (List ℕ × Value)) (row : List ℕ × Value) → list_all (λ image. is_image image.1) (image_rows found) ≡ true → is_image (view row.1) ≡ true
    → list_all (λ image. is_image image.1) (image_rows (found ++ row ∷ [])) ≡ true
images_more [] row all is = and_from (is_image (view row.1)) true is refl
images_more (one ∷ found) row all is =
    let parts = and_parts (is_image (view one.1)) (list_all (λ image. is_image image.1) (image_rows found)) all in
    and_from (is_image (view one.1)) (list_all (λ image. is_image image.1) (image_rows (found ++ row ∷ []))) parts.0 (images_more found row parts.1 is)
