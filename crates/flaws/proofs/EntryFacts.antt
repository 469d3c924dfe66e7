-- Nothing is found wrong in an entry, in a list of entries or in a Dockerfile exactly if it is read.
use Rattle.std.proofs.Common.{◌≡◌, ℕ, List, [], ◌∷◌, Bool, true, false, ◌&&◌, cond, Option, Some, None, option_map, option_and_then, is_some, unwrap_or, codes, refl, sym, ◌∙◌}
use Rattle.serde_json.specs.Data.{Data}
use Rattle.serde_json.specs.Find.{get, as_bool}
use Rattle.strict.specs.Strict.{strict, at_most_one, path_in, short_number_in}
use Rattle.trees.specs.Row.{Row}
use Rattle.trees.specs.TreeMap.{directory_meta, file_meta}
use Rattle.trees.specs.declared.meta.Meta.{Meta}
use Rattle.trees.specs.declared.entry.Entry.TheVariants.{Directory, File}
use Rattle.entries.specs.Reading.{mode_in, meta_with, meta_in, content_in, directory_in, file_in, row_in, rows_of}
use Rattle.entries.specs.Listing.{is_listing, listing_in}
use Rattle.bundle.specs.Parts.{dockerfile_in}
use Rattle.flaws.specs.Looks.{whole, read_as, optional, required_in, required, no_other, items}
use Rattle.flaws.specs.Flaws.{is_mark, content_place, content_flaw, meta_flaw, directory_flaw, file_flaw, entry_flaw, listing_flaw, dockerfile_flaw}
use Rattle.flaws.specs.declared.flaw.Step.TheVariants.{Key}
use Rattle.flaws.proofs.LookFacts.{fine, Suits, both, fine-or_else, fine-last, fine-map, fine-if, fine-read_as, fine-optional, fine-required, fine-no_other, fine-items}

-- ---- mode and owner

meta-some : {M U G A : Type 0} → (mode : Option M) (uid : Option U) (gid : Option G) (f : M → U → G → A)
    → is_some (option_and_then (λ m. option_and_then (λ u. option_map (λ g. f m u g) gid) uid) mode) ≡ is_some mode && (is_some uid && is_some gid)
meta-some None uid gid f = refl
meta-some (Some m) None gid f = refl
meta-some (Some m) (Some u) None f = refl
meta-some (Some m) (Some u) (Some g) f = refl

pub fine-meta : (default : Meta) → Suits meta_flaw (meta_in default)
unfolding meta_in
fine-meta default d =
    fine-or_else (optional (codes "mode") (read_as mode_in) d) _
    ∙ both (fine-optional (read_as mode_in) mode_in (fine-read_as mode_in) (codes "mode") (get (codes "mode") d))
    (fine-or_else (optional (codes "uid") (read_as short_number_in) d) _
    ∙ both (fine-optional (read_as short_number_in) short_number_in (fine-read_as short_number_in) (codes "uid") (get (codes "uid") d))
    (fine-last (optional (codes "gid") (read_as short_number_in) d)
    ∙ fine-optional (read_as short_number_in) short_number_in (fine-read_as short_number_in) (codes "gid") (get (codes "gid") d)))
    ∙ sym (meta-some (at_most_one mode_in (get (codes "mode") d)) (at_most_one short_number_in (get (codes "uid") d)) (at_most_one short_number_in (get (codes "gid") d)) (meta_with default))

-- ---- a directory

-- a mark that is there and true
abbrev marked : Option Bool → Bool
marked None = false
marked (Some b) = b

marked-unwrap : (o : Option Bool) → unwrap_or o false ≡ marked o
marked-unwrap None = refl
marked-unwrap (Some b) = refl

fine-mark : (key : List ℕ) (o : Option Data) → fine (required_in key (whole is_mark) o) ≡ marked (option_and_then as_bool o)
fine-mark key None = refl
fine-mark key (Some d) = fine-map (λ way. Key key ∷ way) (whole is_mark d) ∙ fine-if (is_mark d) [] ∙ marked-unwrap (as_bool d)

directory-some : {P M A : Type 0} → (s : Bool) (flag : Option Bool) (path : Option P) (meta : Option M) (f : P → M → A)
    → is_some (cond s (option_and_then (λ b. cond b (option_and_then (λ p. option_map (λ m. f p m) meta) path) None) flag) None)
    ≡ s && (marked flag && (is_some path && is_some meta))
directory-some false flag path meta f = refl
directory-some true None path meta f = refl
directory-some true (Some false) path meta f = refl
directory-some true (Some true) None meta f = refl
directory-some true (Some true) (Some p) None f = refl
directory-some true (Some true) (Some p) (Some m) f = refl

abbrev directory_keys : List (List ℕ)
directory_keys = codes "dir" ∷ codes "gid" ∷ codes "mode" ∷ codes "path" ∷ codes "uid" ∷ []

fine-directory : Suits directory_flaw directory_in
unfolding directory_in
fine-directory d =
    fine-or_else (no_other directory_keys d) _
    ∙ both (fine-no_other directory_keys d)
    (fine-or_else (required (codes "dir") (whole is_mark) d) _
    ∙ both (fine-mark (codes "dir") (get (codes "dir") d))
    (fine-or_else (required (codes "path") (read_as path_in) d) _
    ∙ both (fine-required (read_as path_in) path_in (fine-read_as path_in) (codes "path") (get (codes "path") d))
    (fine-last (meta_flaw d) ∙ fine-meta directory_meta d)))
    ∙ sym (directory-some (is_some (strict directory_keys d)) (option_and_then as_bool (get (codes "dir") d)) (option_and_then path_in (get (codes "path") d)) (meta_in directory_meta d) (λ path meta. (path, Directory meta)))

-- ---- a file

pub fine-content : Suits content_flaw content_in
fine-content d = fine-if (is_some (content_in d)) (content_place (get (codes "text") d) (get (codes "hex") d))

file-some : {P M C A : Type 0} → (s : Bool) (path : Option P) (meta : Option M) (content : Option C) (f : P → M → C → A)
    → is_some (cond s (option_and_then (λ p. option_and_then (λ m. option_map (λ c. f p m c) content) meta) path) None)
    ≡ s && (is_some path && (is_some meta && is_some content))
file-some false path meta content f = refl
file-some true None meta content f = refl
file-some true (Some p) None content f = refl
file-some true (Some p) (Some m) None f = refl
file-some true (Some p) (Some m) (Some c) f = refl

abbrev file_keys : List (List ℕ)
file_keys = codes "gid" ∷ codes "hex" ∷ codes "mode" ∷ codes "path" ∷ codes "text" ∷ codes "uid" ∷ []

fine-file : Suits file_flaw file_in
unfolding file_in
fine-file d =
    fine-or_else (no_other file_keys d) _
    ∙ both (fine-no_other file_keys d)
    (fine-or_else (required (codes "path") (read_as path_in) d) _
    ∙ both (fine-required (read_as path_in) path_in (fine-read_as path_in) (codes "path") (get (codes "path") d))
    (fine-or_else (meta_flaw d) _
    ∙ both (fine-meta file_meta d)
    (fine-last (content_flaw d) ∙ fine-content d)))
    ∙ sym (file-some (is_some (strict file_keys d)) (option_and_then path_in (get (codes "path") d)) (meta_in file_meta d) (content_in d) (λ path meta content. (path, File meta content)))

-- ---- an entry, and a list of entries

by_mark : (b : Bool) (d : Data) → fine (cond b (directory_flaw d) (file_flaw d)) ≡ is_some (cond b (directory_in d) (file_in d))
by_mark true d = fine-directory d
by_mark false d = fine-file d

pub fine-entry : Suits entry_flaw row_in
fine-entry d = by_mark (is_some (get (codes "dir") d)) d

-- a list that is one of a tree has entries alone
listed : (o : Option (List Row)) → is_some o && is_some (option_and_then (λ rows. cond (is_listing rows) (Some rows) None) o) ≡ is_some (option_and_then (λ rows. cond (is_listing rows) (Some rows) None) o)
listed None = refl
listed (Some rows) = refl

pub fine-listing : Suits listing_flaw listing_in
unfolding listing_in
fine-listing d =
    fine-or_else (items entry_flaw d) _
    ∙ both (fine-items entry_flaw row_in fine-entry d) (fine-last (read_as listing_in d) ∙ fine-read_as listing_in d)
    ∙ listed (rows_of d)

-- ---- a Dockerfile

abbrev dockerfile_keys : List (List ℕ)
dockerfile_keys = codes "hex" ∷ codes "text" ∷ []

dockerfile-some : {A : Type 0} → (s : Bool) (o : Option A) → is_some (cond s o None) ≡ s && is_some o
dockerfile-some true o = refl
dockerfile-some false o = refl

pub fine-dockerfile : Suits dockerfile_flaw dockerfile_in
unfolding dockerfile_in
fine-dockerfile d =
    fine-or_else (no_other dockerfile_keys d) _
    ∙ both (fine-no_other dockerfile_keys d) (fine-last (content_flaw d) ∙ fine-content d)
    ∙ sym (dockerfile-some (is_some (strict dockerfile_keys d)) (content_in d))
