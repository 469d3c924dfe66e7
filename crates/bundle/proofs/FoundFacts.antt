-- What is found at the keys of an image and of a bundle that are read token by token.
use Rattle.std.proofs.Common.{Result, Ok, Err, IfOk, Bor, option_copied, ◌≡◌, ℕ, List, [], ◌∷◌, Option, Some, None, map, Global, option_map, option_and_then, unwrap_or, if◌then◌else◌, refl, ap, ap₂, sym, ◌∙◌, subst}
use Rattle.std.specs.Prelude.{codes}
use Rattle.json.specs.declared.value.Value.{Value}
use Rattle.serde_json.specs.Data.{Data, Members, object, put}
use Rattle.serde_json.specs.Find.{get_member, as_str}
use Rattle.std.specs.FinMap.{empty}
use Rattle.strict.specs.Strict.{at_most_one, rows_in}
use Rattle.trees.specs.Row.{Row}
use Rattle.trees.specs.TreeMap.{TreeMap}
use Rattle.scopes.specs.Args.{BuildArguments}
use Rattle.borrowed.proofs.LookFacts.{strict-object}
use Rattle.borrowed.proofs.PutFacts.{put_here, put_there, read_here, read_there, still_known}
use Rattle.borrowed.specs.Lent.{lent_data, owned_data}
use Rattle.borrowed.specs.Seen.{data_of}
use Rattle.entries.specs.Listing.{listing_in}
use Rattle.bundle.specs.Digest.{digest_in}
use Rattle.bundle.specs.Parts.{or_none, dockerfile_in, files_with, files_at, files_in, image_with, image_at, image_in, images_with, images_in, no_images, args_in, cache_row, caches_in, named_with, named_at, named_in, parts_with, parts_in}
use Rattle.bundle.specs.PrivatePulled.{FindsImage, Finds, is_image_key, is_bundle_key}
use Rattle.bundle.specs.declared.parts.Files.{Files}
use Rattle.bundle.specs.declared.parts.ListedImage.{ListedImage}
use Rattle.bundle.specs.declared.parts.Named.{Named}
use Rattle.bundle.specs.declared.parts.ReadImages.{ReadImages}
use Rattle.bundle.specs.declared.pulling.Found.{Found}
use Rattle.bundle.specs.declared.pulling.FoundImage.{FoundImage}

pub put_config : (f : FoundImage) (o : Option (Value Global)) (v : Value Global) (key : List ℕ) (ms : Members) → key ≡ codes "config" → o ≡ Some v → FindsImage f ms → FindsImage (record { config = o; digest = f.digest; tree = f.tree }) (put key (data_of v) ms)
put_config f o v key ms is e h = subst (λ k. FindsImage (record { config = o; digest = f.digest; tree = f.tree }) (put k (data_of v) ms)) (sym is) (record {
  known = still_known is_image_key (codes "config") (data_of v) ms refl h.known;
  config = put_here (codes "config") o v ms e;
  digest = put_there (codes "digest") (codes "config") f.digest (data_of v) ms refl h.digest;
  tree = read_there listing_in (codes "tree") (codes "config") f.tree (data_of v) ms refl h.tree;
})

pub put_digest : (f : FoundImage) (o : Option (Value Global)) (v : Value Global) (key : List ℕ) (ms : Members) → key ≡ codes "digest" → o ≡ Some v → FindsImage f ms → FindsImage (record { config = f.config; digest = o; tree = f.tree }) (put key (data_of v) ms)
put_digest f o v key ms is e h = subst (λ k. FindsImage (record { config = f.config; digest = o; tree = f.tree }) (put k (data_of v) ms)) (sym is) (record {
  known = still_known is_image_key (codes "digest") (data_of v) ms refl h.known;
  config = put_there (codes "config") (codes "digest") f.config (data_of v) ms refl h.config;
  digest = put_here (codes "digest") o v ms e;
  tree = read_there listing_in (codes "tree") (codes "digest") f.tree (data_of v) ms refl h.tree;
})

pub put_tree : (f : FoundImage) (o : Option (List Row)) (x : List Row) (d : Data) (key : List ℕ) (ms : Members) → key ≡ codes "tree" → o ≡ Some x → listing_in d ≡ Some x → FindsImage f ms → FindsImage (record { config = f.config; digest = f.digest; tree = o }) (put key d ms)
put_tree f o x d key ms is e read h = subst (λ k. FindsImage (record { config = f.config; digest = f.digest; tree = o }) (put k d ms)) (sym is) (record {
  known = still_known is_image_key (codes "tree") d ms refl h.known;
  config = put_there (codes "config") (codes "tree") f.config d ms refl h.config;
  digest = put_there (codes "digest") (codes "tree") f.digest d ms refl h.digest;
  tree = read_here listing_in (codes "tree") o x d ms e read;
})

module _ {C : Type 0} (config : Data → Option C) where
  pub put_args : (f : Found C) (o : Option (Value Global)) (v : Value Global) (key : List ℕ) (ms : Members) → key ≡ codes "args" → o ≡ Some v → Finds config f ms → Finds config (record { args = o; caches = f.caches; context = f.context; dockerfile = f.dockerfile; images = f.images; target = f.target }) (put key (data_of v) ms)
  put_args f o v key ms is e h = subst (λ k. Finds config (record { args = o; caches = f.caches; context = f.context; dockerfile = f.dockerfile; images = f.images; target = f.target }) (put k (data_of v) ms)) (sym is) (record {
    known = still_known is_bundle_key (codes "args") (data_of v) ms refl h.known;
    args = put_here (codes "args") o v ms e;
    caches = read_there (rows_in listing_in) (codes "caches") (codes "args") f.caches (data_of v) ms refl h.caches;
    context = read_there listing_in (codes "context") (codes "args") f.context (data_of v) ms refl h.context;
    dockerfile = put_there (codes "dockerfile") (codes "args") f.dockerfile (data_of v) ms refl h.dockerfile;
    images = read_there (rows_in (image_in config)) (codes "images") (codes "args") f.images (data_of v) ms refl h.images;
    target = put_there (codes "target") (codes "args") f.target (data_of v) ms refl h.target;
  })

  pub put_caches : (f : Found C) (o : Option (List (List ℕ × List Row))) (x : List (List ℕ × List Row)) (d : Data) (key : List ℕ) (ms : Members) → key ≡ codes "caches" → o ≡ Some x → rows_in listing_in d ≡ Some x → Finds config f ms → Finds config (record { args = f.args; caches = o; context = f.context; dockerfile = f.dockerfile; images = f.images; target = f.target }) (put key d ms)
  put_caches f o x d key ms is e read h = subst (λ k. Finds config (record { args = f.args; caches = o; context = f.context; dockerfile = f.dockerfile; images = f.images; target = f.target }) (put k d ms)) (sym is) (record {
    known = still_known is_bundle_key (codes "caches") d ms refl h.known;
    args = put_there (codes "args") (codes "caches") f.args d ms refl h.args;
    caches = read_here (rows_in listing_in) (codes "caches") o x d ms e read;
    context = read_there listing_in (codes "context") (codes "caches") f.context d ms refl h.context;
    dockerfile = put_there (codes "dockerfile") (codes "caches") f.dockerfile d ms refl h.dockerfile;
    images = read_there (rows_in (image_in config)) (codes "images") (codes "caches") f.images d ms refl h.images;
    target = put_there (codes "target") (codes "caches") f.target d ms refl h.target;
  })

  pub put_context : (f : Found C) (o : Option (List Row)) (x : List Row) (d : Data) (key : List ℕ) (ms : Members) → key ≡ codes "context" → o ≡ Some x → listing_in d ≡ Some x → Finds config f ms → Finds config (record { args = f.args; caches = f.caches; context = o; dockerfile = f.dockerfile; images = f.images; target = f.target }) (put key d ms)
  put_context f o x d key ms is e read h = subst (λ k. Finds config (record { args = f.args; caches = f.caches; context = o; dockerfile = f.dockerfile; images = f.images; target = f.target }) (put k d ms)) (sym is) (record {
    known = still_known is_bundle_key (codes "context") d ms refl h.known;
    args = put_there (codes "args") (codes "context") f.args d ms refl h.args;
    caches = read_there (rows_in listing_in) (codes "caches") (codes "context") f.caches d ms refl h.caches;
    context = read_here listing_in (codes "context") o x d ms e read;
    dockerfile = put_there (codes "dockerfile") (codes "context") f.dockerfile d ms refl h.dockerfile;
    images = read_there (rows_in (image_in config)) (codes "images") (codes "context") f.images d ms refl h.images;
    target = put_there (codes "target") (codes "context") f.target d ms refl h.target;
  })

  pub put_dockerfile : (f : Found C) (o : Option (Value Global)) (v : Value Global) (key : List ℕ) (ms : Members) → key ≡ codes "dockerfile" → o ≡ Some v → Finds config f ms → Finds config (record { args = f.args; caches = f.caches; context = f.context; dockerfile = o; images = f.images; target = f.target }) (put key (data_of v) ms)
  put_dockerfile f o v key ms is e h = subst (λ k. Finds config (record { args = f.args; caches = f.caches; context = f.context; dockerfile = o; images = f.images; target = f.target }) (put k (data_of v) ms)) (sym is) (record {
    known = still_known is_bundle_key (codes "dockerfile") (data_of v) ms refl h.known;
    args = put_there (codes "args") (codes "dockerfile") f.args (data_of v) ms refl h.args;
    caches = read_there (rows_in listing_in) (codes "caches") (codes "dockerfile") f.caches (data_of v) ms refl h.caches;
    context = read_there listing_in (codes "context") (codes "dockerfile") f.context (data_of v) ms refl h.context;
    dockerfile = put_here (codes "dockerfile") o v ms e;
    images = read_there (rows_in (image_in config)) (codes "images") (codes "dockerfile") f.images (data_of v) ms refl h.images;
    target = put_there (codes "target") (codes "dockerfile") f.target (data_of v) ms refl h.target;
  })

  pub put_images : (f : Found C) (o : Option (List (List ℕ × ListedImage C))) (x : List (List ℕ × ListedImage C)) (d : Data) (key : List ℕ) (ms : Members) → key ≡ codes "images" → o ≡ Some x → rows_in (image_in config) d ≡ Some x → Finds config f ms → Finds config (record { args = f.args; caches = f.caches; context = f.context; dockerfile = f.dockerfile; images = o; target = f.target }) (put key d ms)
  put_images f o x d key ms is e read h = subst (λ k. Finds config (record { args = f.args; caches = f.caches; context = f.context; dockerfile = f.dockerfile; images = o; target = f.target }) (put k d ms)) (sym is) (record {
    known = still_known is_bundle_key (codes "images") d ms refl h.known;
    args = put_there (codes "args") (codes "images") f.args d ms refl h.args;
    caches = read_there (rows_in listing_in) (codes "caches") (codes "images") f.caches d ms refl h.caches;
    context = read_there listing_in (codes "context") (codes "images") f.context d ms refl h.context;
    dockerfile = put_there (codes "dockerfile") (codes "images") f.dockerfile d ms refl h.dockerfile;
    images = read_here (rows_in (image_in config)) (codes "images") o x d ms e read;
    target = put_there (codes "target") (codes "images") f.target d ms refl h.target;
  })

  pub put_target : (f : Found C) (o : Option (Value Global)) (v : Value Global) (key : List ℕ) (ms : Members) → key ≡ codes "target" → o ≡ Some v → Finds config f ms → Finds config (record { args = f.args; caches = f.caches; context = f.context; dockerfile = f.dockerfile; images = f.images; target = o }) (put key (data_of v) ms)
  put_target f o v key ms is e h = subst (λ k. Finds config (record { args = f.args; caches = f.caches; context = f.context; dockerfile = f.dockerfile; images = f.images; target = o }) (put k (data_of v) ms)) (sym is) (record {
    known = still_known is_bundle_key (codes "target") (data_of v) ms refl h.known;
    args = put_there (codes "args") (codes "target") f.args (data_of v) ms refl h.args;
    caches = read_there (rows_in listing_in) (codes "caches") (codes "target") f.caches (data_of v) ms refl h.caches;
    context = read_there listing_in (codes "context") (codes "target") f.context (data_of v) ms refl h.context;
    dockerfile = put_there (codes "dockerfile") (codes "target") f.dockerfile (data_of v) ms refl h.dockerfile;
    images = read_there (rows_in (image_in config)) (codes "images") (codes "target") f.images (data_of v) ms refl h.images;
    target = put_here (codes "target") o v ms e;
  })

-- ---- what is read of what was found

unmapped : {A : Type 0} → (x : A) (r : Option A) → option_map Some r ≡ Some (Some x) → r ≡ Some x
unmapped x None e = absurd (cc)
unmapped x (Some y) e = cc

never_mapped : {A : Type 0} → (r : Option A) → option_map Some r ≡ Some None → ⊥
never_mapped None e = absurd (cc)
never_mapped (Some y) e = absurd (cc)

-- what stands at a key, where something was read of it
pub there_is : {A : Type 0} → (one : Data → Option A) (x : A) (o : Option Data) → at_most_one one o ≡ Some (Some x) → option_and_then one o ≡ Some x
there_is one x None e = absurd (cc)
there_is one x (Some d) e = unmapped x (one d) e

-- nothing does, where nothing was read
pub there_is_none : {A : Type 0} → (one : Data → Option A) (o : Option Data) → at_most_one one o ≡ Some None → o ≡ None
there_is_none one None e = refl
there_is_none one (Some d) e = absurd (never_mapped (one d) e)

or_some : {A : Type 0} → (none : A) (one : Data → Option A) (x : A) (o : Option Data) → option_and_then one o ≡ Some x → or_none none one o ≡ Some x
or_some none one x None e = absurd (cc)
or_some none one x (Some d) e = e

pub or_what_is : {A : Type 0} → (none : A) (one : Data → Option A) (p : Option A) (o : Option Data) → at_most_one one o ≡ Some p → or_none none one o ≡ Some (unwrap_or p none)
or_what_is none one None o e = ap (or_none none one) (there_is_none one o e)
or_what_is none one (Some x) o e = or_some none one x o (there_is one x o e)

module _ {C : Type 0} (config : Data → Option C) where
  pub image_is : (f : FoundImage) (ms : Members) (c : C) (digest : Option (List ℕ)) (tree : List Row) → FindsImage f ms → option_and_then config (owned_data f.config) ≡ Some c
      → at_most_one digest_in (owned_data f.digest) ≡ Some digest → f.tree ≡ Some tree → image_in config (object ms) ≡ Some (image_with c digest tree)
  unfolding image_in
  image_is f ms c digest tree h c_is digest_is tree_is =
      let there = there_is listing_in tree (get_member (codes "tree") ms) (h.tree ∙ ap Some tree_is) in
      ap (λ b. if b then image_at config (get_member (codes "config") ms) (get_member (codes "digest") ms) (get_member (codes "tree") ms) else None)
      (strict-object (codes "config" ∷ codes "digest" ∷ codes "tree" ∷ []) ms ∙ h.known)
      ∙ ap (option_and_then (λ c. option_and_then (λ digest. option_map (λ tree. image_with c digest tree) (option_and_then listing_in (get_member (codes "tree") ms))) (at_most_one digest_in (get_member (codes "digest") ms))))
      (ap (option_and_then config) (sym h.config) ∙ c_is)
      ∙ ap (option_and_then (λ digest. option_map (λ tree. image_with c digest tree) (option_and_then listing_in (get_member (codes "tree") ms)))) (ap (at_most_one digest_in) (sym h.digest) ∙ digest_is)
      ∙ ap (option_map (λ tree. image_with c digest tree)) there

  pub images_are : (rows : List (List ℕ × ListedImage C)) (read : ReadImages C) (o : Option Data) → images_with rows ≡ Some read → at_most_one (rows_in (image_in config)) o ≡ Some (Some rows) → or_none no_images (images_in config) o ≡ Some read
  unfolding images_in
  images_are rows read None is e = absurd (cc)
  images_are rows read (Some d) is e = ap (option_and_then images_with) (unmapped rows (rows_in (image_in config) d) e) ∙ is

  pub no_images_are : (o : Option Data) → at_most_one (rows_in (image_in config)) o ≡ Some None → or_none no_images (images_in config) o ≡ Some no_images
  no_images_are o e = ap (or_none no_images (images_in config)) (there_is_none (rows_in (image_in config)) o e)

  pub named_is : (i a c : Option Data) (read : ReadImages C) (args : BuildArguments) (caches : List (List ℕ × TreeMap)) → or_none no_images (images_in config) i ≡ Some read → or_none empty args_in a ≡ Some args → or_none [] caches_in c ≡ Some caches
      → named_at config i a c ≡ Some (named_with read args caches)
  named_is i a c read args caches i_is a_is c_is =
      ap (option_and_then (λ images. option_and_then (λ args. option_map (λ caches. named_with images args caches) (or_none [] caches_in c)) (or_none empty args_in a))) i_is
      ∙ ap (option_and_then (λ args. option_map (λ caches. named_with read args caches) (or_none [] caches_in c))) a_is
      ∙ ap (option_map (λ caches. named_with read args caches)) c_is

  pub parts_are : (f : Found C) (ms : Members) (files : Files) (named : Named C) → Finds config f ms
      → ((listed : Option Data) → at_most_one listing_in listed ≡ Some f.context → files_at (owned_data f.dockerfile) listed (owned_data f.target) ≡ Some files)
      → ((i c : Option Data) → at_most_one (rows_in (image_in config)) i ≡ Some f.images → at_most_one (rows_in listing_in) c ≡ Some f.caches → named_at config i (owned_data f.args) c ≡ Some named)
      → parts_in config (object ms) ≡ Some (parts_with files named)
  unfolding parts_in files_in named_in
  parts_are f ms files named h files_are named_are =
      let d = object ms in
      let fs : files_in d ≡ Some files =
      ap₂ (λ x t. files_at x (get_member (codes "context") ms) t) (sym h.dockerfile) (sym h.target) ∙ files_are (get_member (codes "context") ms) h.context in
      let ns : named_in config d ≡ Some named =
      ap (λ a. named_at config (get_member (codes "images") ms) a (get_member (codes "caches") ms)) (sym h.args) ∙ named_are (get_member (codes "images") ms) (get_member (codes "caches") ms) h.images h.caches in
      ap (λ b. if b then option_and_then (λ files. option_map (λ named. parts_with files named) (named_in config d)) (files_in d) else None)
      (strict-object (codes "args" ∷ codes "caches" ∷ codes "context" ∷ codes "dockerfile" ∷ codes "images" ∷ codes "target" ∷ []) ms ∙ h.known)
      ∙ ap (option_and_then (λ files. option_map (λ named. parts_with files named) (named_in config d))) fs
      ∙ ap (option_map (λ named. parts_with files named)) ns

pub caches_are : (rows : List (List ℕ × List Row)) (o : Option Data) → at_most_one (rows_in listing_in) o ≡ Some (Some rows) → or_none [] caches_in o ≡ Some (map cache_row rows)
unfolding caches_in
caches_are rows None e = absurd (cc)
caches_are rows (Some d) e = ap (option_map (λ rows. map cache_row rows)) (unmapped rows (rows_in listing_in d) e)

pub files_are : (dockerfile listed target : Option Data) (x : List ℕ) (context : Option (List Row)) (t : Option (List ℕ)) → option_and_then dockerfile_in dockerfile ≡ Some x → at_most_one listing_in listed ≡ Some context
    → at_most_one as_str target ≡ Some t → files_at dockerfile listed target ≡ Some (files_with x (unwrap_or context []) t)
files_are dockerfile listed target x context t x_is context_is t_is =
    ap (option_and_then (λ dockerfile. option_and_then (λ context. option_map (λ target. files_with dockerfile context target) (at_most_one as_str target)) (or_none [] listing_in listed))) x_is
    ∙ ap (option_and_then (λ context. option_map (λ target. files_with x context target) (at_most_one as_str target))) (or_what_is [] listing_in context listed context_is)
    ∙ ap (option_map (λ target. files_with x (unwrap_or context []) target)) t_is

-- what is lent is what stands there
lent_is : (r : Option (Bor (Value Global))) → lent_data r ≡ owned_data (option_copied r)
lent_is None = refl
lent_is (Some v) = refl

pub lent_is_owned : (r : Option (Bor (Value Global))) (o : Option (Value Global)) → option_copied r ≡ o → lent_data r ≡ owned_data o
lent_is_owned r o e = lent_is r ∙ ap owned_data e

pub made_so : {A E : Type 0} → (r : Result A E) (P Q : A → Type 0) → IfOk r P → ((x : A) → P x → Q x) → IfOk r Q
made_so (Ok x) P Q made so = so x made
made_so (Err e) P Q made so = tt
