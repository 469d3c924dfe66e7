-- Bytes are a bundle or are refused; and what is known of a bundle's images.
use Rattle.std.specs.Prelude.{◌≡◌, ◌⊎◌, ℕ, Bool, true, false, List, [], ◌∷◌, map, Option, Some, None, Result, Ok, Err, codes, is_some, nat_le, length, refl}
use Rattle.std.specs.List.{All, list_all}
use Rattle.std.specs.Ordering.{eq_by_cmp}
use Rattle.std.specs.Option.{option_and_then, option_map}
use Rattle.std.specs.Str.{is_utf8}
use Rattle.std.specs.Cmp.Lexicographic.{nat_list_cmp_total}
use Rattle.std.specs.FinMap.{empty, get, find, get-empty, get-from_entries}
use Rattle.std.proofs.Common.{Ordering, sym, ap, ◌∙◌, subst, cond, inl, inr}
use Rattle.std.proofs.lemmas.List.Elements.{All-nil, All-cons, All-head, All-tail}
use Rattle.std.proofs.lemmas.Option.{option_and_then_some}
use Rattle.serde_json.specs.Data.{Data, Members, no_members, member}
use Rattle.serde_json.specs.Find.{as_str, as_object}
use Rattle.serde_json.specs.Find as json
use Rattle.serde_json.specs.Read.{read}
use Rattle.plain.specs.Limits.{most_bundle_bytes}
use Rattle.plain.specs.declared.fault.Fault.TheVariants.{Because}
use Rattle.plain.specs.declared.refusal.Refusal.{Refusal}
use Rattle.plain.specs.declared.refusal.Code.TheVariants.{R19, R20}
use Rattle.strict.specs.Strict.{strict, at_most_one, with_first, members_in, rows_in}
use Rattle.trees.specs.TreeMap.{TreeMap}
use Rattle.ignorefile.specs.declared.line.Line.{Line}
use Rattle.ignorefile.specs.File.{ignore_of}
use Rattle.contexts.specs.Context.{IsListing, IsContext}
use Rattle.cachemounts.specs.Content.{common_content}
use Rattle.plans.specs.Images.{ImagesValue}
use Rattle.plans.specs.Sources.{name_cmp}
use Rattle.plans.specs.declared.images.Image as image
use Rattle.trees.specs.Row.{Row}
use Rattle.entries.specs.Reading.{rows_of}
use Rattle.entries.specs.Listing.{is_listing, listing_in}
use Rattle.bundle.specs.declared.parts.Files.{Files}
use Rattle.bundle.specs.declared.parts.ListedImage.{ListedImage}
use Rattle.bundle.specs.declared.parts.ReadImages.{ReadImages}
use Rattle.bundle.specs.declared.parts.Named.{Named}
use Rattle.bundle.specs.declared.parts.Parts.{Parts}
use Rattle.bundle.specs.declared.whole.Bundle.{Bundle}
use Rattle.bundle.specs.Digest.{digest_in}
use Rattle.bundle.specs.Parts.{dockerfile_in, or_none, files_with, files_in, image_with, image_at, image_in, is_image_name, image_row, images_of, read_with, images_in, no_images, args_in, caches_in, named_with, named_in, parts_with, parts_in, parts_within, parts_of}
use Rattle.bundle.specs.Reading.{ignore_bytes, told_line, Completes, ReadsBundle}
use Rattle.bundle.proofs.ListingFacts.{listing}
use Rattle.bundle.proofs.WholeFacts.{reads}

some_is : {X : Type 0} (x y : X) → Some x ≡ Some y → x ≡ y
some_is x y e = cc

mapped : {A B P : Type 0} (f : A → B) (o : Option A) (y : B) → option_map f o ≡ Some y → ((x : A) → o ≡ Some x → f x ≡ y → P) → P
mapped f None y e more = absurd cc
mapped f (Some x) y e more = more x refl (some_is (f x) y e)

-- what a test lets through
passed : {A : Type 0} (b : Bool) (o : Option A) (y : A) → cond b o None ≡ Some y → o ≡ Some y
passed true o y e = e
passed false o y e = absurd cc

tested : {A : Type 0} (test : A → Bool) (x y : A) → cond (test x) (Some x) None ≡ Some y → test y ≡ true
tested test x y e = by (test x) refl e
  where
    by : (b : Bool) → test x ≡ b → cond b (Some x) None ≡ Some y → test y ≡ true
    by true holds there = ap test (sym (some_is x y there)) ∙ holds
    by false fails there = absurd cc

-- ---- what the parts are read from

parts_from : {C : Type 0} (config : Data → Option C) (most : ℕ) (bytes : List ℕ) (parts : Parts C) → parts_within most config bytes ≡ Some parts
    → (d : Data) × (parts_in config d ≡ Some parts)
unfolding parts_within
parts_from config most bytes parts e =
    option_and_then_some (parts_in config) (read bytes) parts
    (passed (is_utf8 bytes) (option_and_then (parts_in config) (read bytes)) parts
    (passed (nat_le (length bytes) most) (cond (is_utf8 bytes) (option_and_then (parts_in config) (read bytes)) None) parts e))
    (λ d there is. (d, is))

record AreIn {C : Type 0} (config : Data → Option C) (d : Data) (parts : Parts C) : Type 0 where
  files : files_in d ≡ Some parts.files
  named : named_in config d ≡ Some parts.named

are_in : {C : Type 0} (config : Data → Option C) (d : Data) (parts : Parts C) → parts_in config d ≡ Some parts → AreIn config d parts
unfolding parts_in
are_in config d parts e =
    option_and_then_some (λ files. option_map (λ named. parts_with files named) (named_in config d)) (files_in d) parts
    (passed (is_some (strict (codes "args" ∷ codes "caches" ∷ codes "context" ∷ codes "dockerfile" ∷ codes "images" ∷ codes "target" ∷ []) d))
    (option_and_then (λ files. option_map (λ named. parts_with files named) (named_in config d)) (files_in d)) parts e)
    (λ files at_files by_files. mapped (λ named. parts_with files named) (named_in config d) parts by_files
    (λ named at_named made. record {
      files = at_files ∙ ap (λ (p : Parts _). Some p.files) made;
      named = at_named ∙ ap (λ (p : Parts _). Some p.named) made;
    }))

-- ---- the context is a listing

no_rows : is_listing [] ≡ true
unfolding is_listing
no_rows = refl

listed : (d : Data) (rows : List Row) → listing_in d ≡ Some rows → is_listing rows ≡ true
unfolding listing_in
listed d rows e =
    option_and_then_some (λ rows. cond (is_listing rows) (Some rows) None) (rows_of d) rows e
    (λ all there kept. tested is_listing all rows kept)

context_listed : (o : Option Data) (rows : List Row) → or_none [] listing_in o ≡ Some rows → is_listing rows ≡ true
context_listed None rows e = ap is_listing (sym (some_is [] rows e)) ∙ no_rows
context_listed (Some d) rows e = listed d rows e

files_listed : (d : Data) (files : Files) → files_in d ≡ Some files → is_listing files.context ≡ true
unfolding files_in
files_listed d files e =
    option_and_then_some
    (λ dockerfile. option_and_then (λ context. option_map (λ target. files_with dockerfile context target) (at_most_one as_str (json.get (codes "target") d)))
    (or_none [] listing_in (json.get (codes "context") d)))
    (option_and_then dockerfile_in (json.get (codes "dockerfile") d)) files e
    (λ dockerfile at_dockerfile by_dockerfile. option_and_then_some
    (λ context. option_map (λ target. files_with dockerfile context target) (at_most_one as_str (json.get (codes "target") d)))
    (or_none [] listing_in (json.get (codes "context") d)) files by_dockerfile
    (λ context at_context by_context. mapped (λ target. files_with dockerfile context target) (at_most_one as_str (json.get (codes "target") d)) files by_context
    (λ target at_target made.
    ap (λ (f : Files). is_listing f.context) (sym made) ∙ context_listed (json.get (codes "context") d) context at_context)))

-- ---- a bundle or a refusal

abbrev OneContext : Type 0
OneContext = (rows : List Row) (lines : List Line) → IsListing rows → (tree : TreeMap) × IsContext rows lines tree

abbrev IsComplete : {C : Type 0} → Parts C → Type 0
IsComplete {C} parts = ((bundle : Bundle C) × Completes parts (Ok bundle)) ⊎ ((refusal : Refusal) × Completes parts (Err (Because refusal)))

complete_by : {C : Type 0} (parts : Parts C) → OneContext → IsListing parts.files.context → (said : Result (List Line) ℕ)
    → ignore_of (ignore_bytes parts.files.context) ≡ said → IsComplete parts
complete_by parts filtered are (Ok lines) e =
    let tree = filtered parts.files.context lines are in
    inl (
      record {
        dockerfile = parts.files.dockerfile;
        context = tree.0;
        images = parts.named.images;
        digests = parts.named.digests;
        args = parts.named.args;
        caches = record { contents = map common_content parts.named.caches; holds = [] };
        target = parts.files.target;
      },
      (
        lines,
        (e, record { listing = are; dockerfile = refl; context = tree.1; images = refl; digests = refl; args = refl; caches = refl; target = refl }),
      ),
    )
complete_by parts filtered are (Err number) e = inr (record { code = R19; line = told_line number }, (number, (e, refl)))

abbrev IsAnswered : {C : Type 0} → (Data → Option C) → List ℕ → Type 0
IsAnswered {C} config bytes = ((bundle : Bundle C) × ReadsBundle config bytes (Ok bundle)) ⊎ ((refusal : Refusal) × ReadsBundle config bytes (Err (Because refusal)))

answered_by : {C : Type 0} (config : Data → Option C) (bytes : List ℕ) → OneContext → (o : Option (Parts C)) → parts_of config bytes ≡ o → IsAnswered config bytes
answered_by config bytes filtered None e = inr (record { code = R20; line = 0 }, inl (e, refl))
answered_by config bytes filtered (Some parts) e =
    let from = parts_from config most_bundle_bytes bytes parts e in
    let are = listing parts.files.context (files_listed from.0 parts.files (are_in config from.0 parts from.1).files) in
    elim (complete_by parts filtered are (ignore_of (ignore_bytes parts.files.context)) refl) [
      | inl made ↦ inl (made.0, reads config bytes parts (Ok made.0) e made.1)
      | inr bad ↦ inr (bad.0, reads config bytes parts (Err (Because bad.0)) e bad.1)
    ]

pub answered : {C : Type 0} (config : Data → Option C) (bytes : List ℕ) → OneContext → IsAnswered config bytes
answered config bytes filtered = answered_by config bytes filtered (parts_of config bytes) refl

-- ---- images

-- a configuration is what some data is read as
abbrev IsReadSo : {C : Type 0} → (Data → Option C) → C → Type 0
IsReadSo config c = (d : Data) × (config d ≡ Some c)

first_is : {A P : Type 0} (o : Option A) (rest : Option (List A)) (ys : List A) → with_first o rest ≡ Some ys
    → ((x : A) (xs : List A) → o ≡ Some x → rest ≡ Some xs → x ∷ xs ≡ ys → P) → P
first_is None rest ys e more = absurd cc
first_is (Some x) None ys e more = absurd cc
first_is (Some x) (Some xs) ys e more = more x xs refl refl (some_is (x ∷ xs) ys e)

image_is : {C : Type 0} (config : Data → Option C) (d : Data) (listed : ListedImage C) → image_in config d ≡ Some listed → IsReadSo config listed.config
unfolding image_in
image_is config d listed e =
    option_and_then_some
    (λ c. option_and_then (λ digest. option_map (λ tree. image_with c digest tree) (option_and_then listing_in (json.get (codes "tree") d))) (at_most_one digest_in (json.get (codes "digest") d)))
    (option_and_then config (json.get (codes "config") d)) listed
    (passed (is_some (strict (codes "config" ∷ codes "digest" ∷ codes "tree" ∷ []) d))
    (image_at config (json.get (codes "config") d) (json.get (codes "digest") d) (json.get (codes "tree") d)) listed e)
    (λ c at_config by_config. option_and_then_some
    (λ digest. option_map (λ tree. image_with c digest tree) (option_and_then listing_in (json.get (codes "tree") d))) (at_most_one digest_in (json.get (codes "digest") d)) listed by_config
    (λ digest at_digest by_digest. mapped (λ tree. image_with c digest tree) (option_and_then listing_in (json.get (codes "tree") d)) listed by_digest
    (λ tree at_tree made. option_and_then_some config (json.get (codes "config") d) c at_config
    (λ from there is. (from, is ∙ ap (λ (l : ListedImage _). Some l.config) made)))))

abbrev RowIsRead : {C : Type 0} → (Data → Option C) → List ℕ × ListedImage C → Type 0
RowIsRead config row = IsReadSo config row.1.config

rows_are : {C : Type 0} (config : Data → Option C) (members : Members) (rows : List (List ℕ × ListedImage C)) → members_in (image_in config) members ≡ Some rows
    → All (RowIsRead config) rows
rows_are config no_members rows e = subst (λ rs. All (RowIsRead config) rs) (some_is [] rows e) (All-nil (RowIsRead config))
rows_are config (member key d members) rows e =
    first_is (option_map (λ x. (key, x)) (image_in config d)) (members_in (image_in config) members) rows e
    (λ row more at_row at_more made. subst (λ rs. All (RowIsRead config) rs) made
    (All-cons (RowIsRead config) row more
    (mapped (λ x. (key, x)) (image_in config d) row at_row (λ listed there is. subst (RowIsRead config) is (image_is config d listed there)))
    (rows_are config members more at_more)))

-- what is found among some rows is one of them
found_is : {C : Type 0} (config : Data → Option C) (rows : List (List ℕ × ListedImage C)) (R : List ℕ → List ℕ → Ordering) (name : List ℕ) (found : image.Image C)
    → All (RowIsRead config) rows → find R name (map image_row rows) ≡ Some found → IsReadSo config found.config
found_is config [] R name found are e = absurd cc
found_is config (row ∷ rows) R name found are e =
    by (eq_by_cmp R name row.0) e (λ rest. found_is config rows R name found (All-tail (RowIsRead config) row rows are) rest)
  where
    by : (b : Bool) → cond b (Some (image_row row).1) (find R name (map image_row rows)) ≡ Some found
        → (find R name (map image_row rows) ≡ Some found → IsReadSo config found.config) → IsReadSo config found.config
    by true there more = subst (λ (i : image.Image _). IsReadSo config i.config) (some_is (image_row row).1 found there) (All-head (RowIsRead config) row rows are)
    by false there more = more there

images_read : {C : Type 0} (config : Data → Option C) (d : Data) (read : ReadImages C) → images_in config d ≡ Some read
    → (name : List ℕ) (found : image.Image C) → get read.images name ≡ Some found → IsReadSo config found.config
unfolding images_in rows_in
images_read config d read e name found at =
    option_and_then_some (λ rows. cond (list_all (λ row. is_image_name row.0) rows) (Some (read_with rows)) None) (rows_in (image_in config) d) read e
    (λ rows from kept. option_and_then_some (members_in (image_in config)) (as_object d) rows from
    (λ members there all.
    let made : images_of rows ≡ read.images =
    ap (λ (r : ReadImages _). r.images) (some_is (read_with rows) read (passed (list_all (λ row. is_image_name row.0) rows) (Some (read_with rows)) read kept)) in
    found_is config rows name_cmp name found (rows_are config members rows all)
    (sym (get-from_entries nat_list_cmp_total (map image_row rows) name) ∙ (ap (λ (i : ImagesValue _). get i name) made ∙ at))))

images_at : {C : Type 0} (config : Data → Option C) (o : Option Data) (read : ReadImages C) → or_none no_images (images_in config) o ≡ Some read
    → (name : List ℕ) (found : image.Image C) → get read.images name ≡ Some found → IsReadSo config found.config
images_at config None read e name found at =
    let none = sym (get-empty name_cmp name) ∙ (ap (λ (r : ReadImages _). get r.images name) (some_is no_images read e) ∙ at) in absurd cc
images_at config (Some d) read e name found at = images_read config d read e name found at

named_read : {C : Type 0} (config : Data → Option C) (d : Data) (named : Named C) → named_in config d ≡ Some named
    → (name : List ℕ) (found : image.Image C) → get named.images name ≡ Some found → IsReadSo config found.config
unfolding named_in
named_read config d named e name found at =
    option_and_then_some
    (λ read. option_and_then (λ args. option_map (λ caches. named_with read args caches) (or_none [] caches_in (json.get (codes "caches") d))) (or_none empty args_in (json.get (codes "args") d)))
    (or_none no_images (images_in config) (json.get (codes "images") d)) named e
    (λ read at_images by_images. option_and_then_some
    (λ args. option_map (λ caches. named_with read args caches) (or_none [] caches_in (json.get (codes "caches") d)))
    (or_none empty args_in (json.get (codes "args") d)) named by_images
    (λ args at_args by_args. mapped (λ caches. named_with read args caches) (or_none [] caches_in (json.get (codes "caches") d)) named by_args
    (λ caches at_caches made. images_at config (json.get (codes "images") d) read at_images name found (ap (λ (n : Named _). get n.images name) made ∙ at))))

pub image_read : {C : Type 0} (config : Data → Option C) (bytes : List ℕ) (bundle : Bundle C) → ReadsBundle config bytes (Ok bundle)
    → (name : List ℕ) (found : image.Image C) → get bundle.images name ≡ Some found → IsReadSo config found.config
image_read config bytes bundle (parts, (e, (lines, (said, is)))) name found at =
    let from = parts_from config most_bundle_bytes bytes parts e in
    named_read config from.0 parts.named (are_in config from.0 parts from.1).named name found (ap (λ (i : ImagesValue _). get i name) (sym is.images) ∙ at)
