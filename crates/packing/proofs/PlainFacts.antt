-- What is put into a plain tree leaves it plain.
use Rattle.std.specs.Prelude.{◌≡◌, ◌⊎◌, ◌≤◌, ◌+◌, ℕ, Bool, true, false, List, [], ◌∷◌, ◌++◌, map, Option, Some, None, Result, Ok, Err, cond, unwrap_or, refl, codes}
use Rattle.std.specs.List.{list_all}
use Rattle.std.specs.Ordering.{match_ordering, nat_cmp}
use Rattle.std.specs.Cmp.Lexicographic.{slice_cmp}
use Rattle.std.proofs.Common.{inl, inr, ap, sym, ◌∙◌, ◌||◌, subst, arith, Ordering, Less, Equal, Greater}
use Rattle.std.specs.Option.{option_map, option_or}
use Rattle.std.specs.FinMap.{get, entries}
use Rattle.plain.specs.declared.fault.Fault.{Fault}
use Rattle.plain.specs.declared.fault.Fault.TheVariants.{Because, Memory}
use Rattle.paths.specs.Path.{IsClean}
use Rattle.std.proofs.lemmas.Bool.{and_parts}
use Rattle.serde_json.specs.Data.{Data, Members, string, object, no_members, member, put, depth, items_depth, members_depth}
use Rattle.serde_json.specs.Read.{max_depth, read}
use Rattle.serde_json.specs.View.{items_of}
use Rattle.serde_json.specs.Written.{compact_text, has_float, members_have_float}
use Rattle.trees.specs.Cause.{ChangesTree}
use Rattle.trees.specs.declared.cause.Cause.{Cause}
use Rattle.trees.specs.TreeMap.{TreeMap, directory_meta, empty_tree}
use Rattle.trees.specs.Put.{put_into}
use Rattle.trees.specs.declared.entry.Entry.{Entry}
use Rattle.trees.specs.declared.entry.Entry.TheVariants.{Directory, File}
use Rattle.trees.proofs.TreeLaws.{get-put, get-empty_tree}
use Rattle.trees.specs.Row.{Row}
use Rattle.entries.specs.Written.{entry_data}
use Rattle.entries.proofs.WrittenFacts.{tree-plain}
use Rattle.packing.specs.Images.{ImageRow, are_images, are_names, is_image, most_depth, names_of}
use Rattle.packing.specs.Leaving.{ignore_path}
use Rattle.packing.specs.Packed.{Asked, Given, IsPlainEntry, IsPlain, bundle_of, bytes_in, dockerfile_among, dockerfile_of, dockerfile_path, files_members, given_with, members_beside, packed_data, packed_of, put_args, put_images, put_target, put_texts, put_values}
use Rattle.packing.specs.PrivatePacked.{IsTextOf, beside as beside_images, beside_among, beside_of}
use Rattle.packing.proofs.ImageFacts.{image_even}

-- each that may stand here is plain
abbrev AllPlain : Option Entry → Type 0
AllPlain found = (entry : Entry) → found ≡ Some entry → IsPlainEntry entry

only : (this : Entry) → IsPlainEntry this → AllPlain (Some this)
only this plain entry is = subst IsPlainEntry (ap (λ (o : Option Entry). unwrap_or o this) is) plain

front : (is_one : Bool) → AllPlain (cond is_one (Some (Directory directory_meta)) None)
front true = only (Directory directory_meta) refl
front false = λ entry is. absurd cc

beside : (found : Option Entry) (is_one : Bool) → AllPlain found → AllPlain (option_or found (cond is_one (Some (Directory directory_meta)) None))
beside None is_one plain = front is_one
beside (Some this) is_one plain = plain

here : (same : Bool) (this : Entry) (rest : Option Entry) → IsPlainEntry this → AllPlain rest → AllPlain (cond same (Some this) rest)
here true this rest plain all = only this plain
here false this rest plain all = all

pub plain_put : (tree new : TreeMap) (path : List (List ℕ)) (entry : Entry) → IsPlain tree → IsPlainEntry entry
    → put_into tree path entry ≡ Ok new → IsPlain new
plain_put tree new path entry plain is put q other at =
    here _ entry _ is (beside (get tree q) _ (plain q)) other (sym (get-put tree new path q entry put) ∙ at)

pub plain_empty : IsPlain empty_tree
plain_empty q other at = front _ other (sym (get-empty_tree q) ∙ at)

pub plain_changed : (tree new : TreeMap) (path : List (List ℕ)) (entry : Entry) (result : Result (Unit {0}) (Fault Cause)) → IsPlain tree
    → IsPlainEntry entry → ChangesTree (put_into tree path entry) tree new result → IsPlain new
plain_changed tree new path entry (Ok done) plain is change = plain_put tree new path entry plain is change
plain_changed tree new path entry (Err (Because cause)) plain is change = subst IsPlain (sym change.1) plain
plain_changed tree new path entry (Err Memory) plain is change = subst IsPlain (sym change) plain

dockerfile_clean : IsClean dockerfile_path
dockerfile_clean = record { names = refl; short = refl; few = omega arith }

ignore_clean : IsClean ignore_path
ignore_clean = record { names = refl; short = refl; few = omega arith }

-- the paths of the Dockerfile and of the ignore file may be made
pub own_child : (base : List (List ℕ)) (name given : List ℕ) → base ≡ [] → name ≡ given → (given ≡ codes "Dockerfile") ⊎ (given ≡ codes ".dockerignore")
    → IsClean (base ++ name ∷ [])
own_child base name given is_root is_name (inl is) = rw (is_root, is_name, is) dockerfile_clean
own_child base name given is_root is_name (inr is) = rw (is_root, is_name, is) ignore_clean

-- ---- no bundle holds a float

neither : (a b : Bool) → a ≡ false → b ≡ false → (a || b) ≡ false
neither a b h i = rw (h, i) refl

halves : (a b : Bool) → (a || b) ≡ false → (a ≡ false) × (b ≡ false)
halves true b h = cc
halves false b h = (refl, h)

put-plain : (k : List ℕ) (d : Data) (ms : Members) → has_float d ≡ false → members_have_float ms ≡ false → members_have_float (put k d ms) ≡ false
put-plain k d no_members h i = neither _ _ h refl
put-plain k d (member l e ms) h i =
    let parts = halves (has_float e) (members_have_float ms) i in
    by (slice_cmp nat_cmp k l) parts.0 parts.1 (put-plain k d ms h parts.1)
  where
    by : (o : Ordering) → has_float e ≡ false → members_have_float ms ≡ false → members_have_float (put k d ms) ≡ false
        → members_have_float (match_ordering o (member k d (member l e ms)) (member l d ms) (member l e (put k d ms))) ≡ false
    by Less p q r = neither _ _ h (neither _ _ p q)
    by Equal p q r = neither _ _ h q
    by Greater p q r = neither _ _ p r

texts-plain : (rows : List (List ℕ × List ℕ)) (ms : Members) → members_have_float ms ≡ false → members_have_float (put_texts rows ms) ≡ false
texts-plain [] ms h = h
texts-plain (row ∷ rows) ms h = texts-plain rows (put row.0 (string row.1) ms) (put-plain row.0 (string row.1) ms refl h)

args-plain : (args : List (List ℕ × List ℕ)) (ms : Members) → members_have_float ms ≡ false → members_have_float (put_args args ms) ≡ false
args-plain [] ms h = h
args-plain (arg ∷ args) ms h = put-plain (codes "args") (object (put_texts (arg ∷ args) no_members)) ms (texts-plain (arg ∷ args) no_members refl) h

target-plain : (target : Option (List ℕ)) (ms : Members) → members_have_float ms ≡ false → members_have_float (put_target target ms) ≡ false
target-plain None ms h = h
target-plain (Some target) ms h = put-plain (codes "target") (string target) ms refl h

files-plain : (rows : List Row) (dockerfile : List ℕ) → members_have_float (files_members rows dockerfile) ≡ false
files-plain rows dockerfile = rw (tree-plain rows) refl

values-plain : (images : List ImageRow) (ms : Members) → list_all (λ image. is_image image.1) images ≡ true → members_have_float ms ≡ false
    → members_have_float (put_values images ms) ≡ false
values-plain [] ms h i = i
values-plain (image ∷ images) ms h i =
    let parts = and_parts (is_image image.1) (list_all (λ other. is_image other.1) images) h in
    values-plain images (put image.0 image.1 ms) parts.1 (put-plain image.0 image.1 ms (image_even image.1 parts.0).0 i)

images-plain : (images : List ImageRow) (ms : Members) → list_all (λ image. is_image image.1) images ≡ true → members_have_float ms ≡ false
    → members_have_float (put_images images ms) ≡ false
images-plain [] ms h i = i
images-plain (image ∷ images) ms h i =
    put-plain (codes "images") (object (put_values (image ∷ images) no_members)) ms (values-plain (image ∷ images) no_members h refl) i

packed_is_plain : (rows : List Row) (dockerfile : List ℕ) (given : Given) → list_all (λ image. is_image image.1) given.images ≡ true
    → has_float (packed_data rows dockerfile given) ≡ false
unfolding packed_data
packed_is_plain rows dockerfile given h =
    images-plain given.images _ h (target-plain given.target _ (args-plain given.args _ (files-plain rows dockerfile)))

-- ---- none nests too deep

put-depth : (k : List ℕ) (d : Data) (ms : Members) (n : ℕ) → depth d ≤ n → members_depth ms ≤ n → members_depth (put k d ms) ≤ n
put-depth k d no_members n h i = omega arith
put-depth k d (member l e ms) n h i =
    let later = put-depth k d ms n h (omega arith) in
    by (slice_cmp nat_cmp k l) (omega arith) (omega arith) (omega arith)
  where
    by : (o : Ordering) → members_depth (member k d (member l e ms)) ≤ n → members_depth (member l d ms) ≤ n → members_depth (member l e (put k d ms)) ≤ n
        → members_depth (match_ordering o (member k d (member l e ms)) (member l d ms) (member l e (put k d ms))) ≤ n
    by Less p q r = p
    by Equal p q r = q
    by Greater p q r = r

texts-depth : (rows : List (List ℕ × List ℕ)) (ms : Members) (n : ℕ) → members_depth ms ≤ n → members_depth (put_texts rows ms) ≤ n
texts-depth [] ms n h = h
texts-depth (row ∷ rows) ms n h = texts-depth rows (put row.0 (string row.1) ms) n (put-depth row.0 (string row.1) ms n (omega arith) h)

args-depth : (args : List (List ℕ × List ℕ)) (ms : Members) (n : ℕ) → 1 ≤ n → members_depth ms ≤ n → members_depth (put_args args ms) ≤ n
args-depth [] ms n l h = h
args-depth (arg ∷ args) ms n l h =
    let within = texts-depth (arg ∷ args) no_members 0 (omega arith) in
    put-depth (codes "args") (object (put_texts (arg ∷ args) no_members)) ms n (omega arith) h

target-depth : (target : Option (List ℕ)) (ms : Members) (n : ℕ) → members_depth ms ≤ n → members_depth (put_target target ms) ≤ n
target-depth None ms n h = h
target-depth (Some target) ms n h = put-depth (codes "target") (string target) ms n (omega arith) h

entry-depth : (path : List (List ℕ)) (entry : Entry) → depth (entry_data path entry) ≤ 1
entry-depth path (Directory meta) = omega arith
entry-depth path (File meta content) = omega arith

rows-depth : (rows : List Row) → items_depth (items_of (map (λ row. entry_data row.0 row.1) rows)) ≤ 1
rows-depth [] = omega arith
rows-depth (row ∷ rows) =
    let one = entry-depth row.0 row.1 in
    let others = rows-depth rows in
    omega arith

files-depth : (rows : List Row) (dockerfile : List ℕ) (n : ℕ) → 2 ≤ n → members_depth (files_members rows dockerfile) ≤ n
files-depth rows dockerfile n l = let within = rows-depth rows in omega arith

values-depth : (images : List ImageRow) (ms : Members) → list_all (λ image. is_image image.1) images ≡ true → members_depth ms ≤ most_depth
    → members_depth (put_values images ms) ≤ most_depth
values-depth [] ms h i = i
values-depth (image ∷ images) ms h i =
    let parts = and_parts (is_image image.1) (list_all (λ other. is_image other.1) images) h in
    values-depth images (put image.0 image.1 ms) parts.1 (put-depth image.0 image.1 ms most_depth (image_even image.1 parts.0).1 i)

images-depth : (images : List ImageRow) (ms : Members) → list_all (λ image. is_image image.1) images ≡ true → members_depth ms ≤ most_depth + 1
    → members_depth (put_images images ms) ≤ most_depth + 1
images-depth [] ms h i = i
images-depth (image ∷ images) ms h i =
    let within = values-depth (image ∷ images) no_members h (omega arith) in
    put-depth (codes "images") (object (put_values (image ∷ images) no_members)) ms (most_depth + 1) (omega arith) i

deeper : (ms : Members) → members_depth ms ≤ most_depth + 1 → depth (object ms) ≤ max_depth
deeper ms h = omega arith

beside-depth : (rows : List Row) (dockerfile : List ℕ) (target : Option (List ℕ)) (args : List (List ℕ × List ℕ))
    → members_depth (members_beside rows dockerfile target args) ≤ most_depth + 1
beside-depth rows dockerfile target args =
    target-depth target (put_args args (files_members rows dockerfile)) (most_depth + 1)
    (args-depth args (files_members rows dockerfile) (most_depth + 1) (omega arith) (files-depth rows dockerfile (most_depth + 1) (omega arith)))

packed_is_shallow : (rows : List Row) (dockerfile : List ℕ) (given : Given) → list_all (λ image. is_image image.1) given.images ≡ true
    → depth (packed_data rows dockerfile given) ≤ max_depth
unfolding packed_data
packed_is_shallow rows dockerfile given h =
    deeper (put_images given.images (members_beside rows dockerfile given.target given.args))
    (images-depth given.images (members_beside rows dockerfile given.target given.args) h (beside-depth rows dockerfile given.target given.args))

-- ---- the text of a bundle

-- the members of a folder with a Dockerfile
pub members_of_file : (tree : TreeMap) (path : List (List ℕ)) (found : Option Entry) (asked : Asked) (content : List ℕ) (members : Members) → path ≡ dockerfile_path
    → found ≡ get tree path → bytes_in found ≡ Some content → members ≡ beside_images (entries tree) content asked
    → Some members ≡ beside_of tree (dockerfile_of tree) asked
members_of_file tree path found asked content members at is file made =
    let bytes : dockerfile_of tree ≡ Some content = ap bytes_in (ap (get tree) (sym at) ∙ sym is) ∙ file in
    rw bytes (ap Some made)

-- and of one without
pub members_of_none : (tree : TreeMap) (path : List (List ℕ)) (found : Option Entry) (asked : Asked) → path ≡ dockerfile_path → found ≡ get tree path → bytes_in found ≡ None
    → None ≡ beside_of tree (dockerfile_of tree) asked
members_of_none tree path found asked at is none =
    let bytes : dockerfile_of tree ≡ None = ap bytes_in (ap (get tree) (sym at) ∙ sym is) ∙ none in
    rw bytes refl

packed_at : (rows : List Row) (dockerfile : List ℕ) (asked : Asked) (images : List ImageRow)
    → object (put_images images (beside_images rows dockerfile asked)) ≡ packed_data rows dockerfile (given_with asked images)
unfolding packed_data
packed_at rows dockerfile asked images = refl

-- the text that is made is the folder's bundle
pub text_of_members : (tree : TreeMap) (file : Option (List ℕ)) (asked : Asked) (images : List ImageRow) (members : Members) (text : List ℕ)
    → are_images images ≡ true → Some members ≡ beside_among tree file asked → IsTextOf (object (put_images images members)) text
    → (Some text ≡ packed_of tree file (given_with asked images)) × (read text ≡ bundle_of tree file (given_with asked images))
text_of_members tree file asked images members text are is made = go (dockerfile_among tree file) is
  where
    every : list_all (λ image. is_image image.1) images ≡ true
    every = (and_parts (are_names (names_of images)) (list_all (λ image. is_image image.1) images) are).1

    go : (found : Option (List ℕ)) → Some members ≡ beside_of tree found asked
        → (Some text ≡ option_map compact_text (option_map (λ dockerfile. packed_data (entries tree) dockerfile (given_with asked images)) found))
        × (read text ≡ option_map (λ dockerfile. packed_data (entries tree) dockerfile (given_with asked images)) found)
    go None e = cc
    go (Some dockerfile) e =
        let same : members ≡ beside_images (entries tree) dockerfile asked = ap (λ (o : Option Members). unwrap_or o members) e in
        let whole : object (put_images images members) ≡ packed_data (entries tree) dockerfile (given_with asked images) = ap (λ ms. object (put_images images ms)) same ∙ packed_at (entries tree) dockerfile asked images in
        let written : IsTextOf (packed_data (entries tree) dockerfile (given_with asked images)) text = subst (λ d. IsTextOf d text) whole made in
        (ap Some (written.compact (packed_is_plain (entries tree) dockerfile (given_with asked images) every)), written.reads (packed_is_shallow (entries tree) dockerfile (given_with asked images) every))

pub text_of_none : (tree : TreeMap) (file : Option (List ℕ)) (asked : Asked) (given : Given) → None ≡ beside_among tree file asked → None ≡ packed_of tree file given
text_of_none tree file asked given is = go (dockerfile_among tree file) is
  where
    go : (found : Option (List ℕ)) → None ≡ beside_of tree found asked
        → None ≡ option_map compact_text (option_map (λ dockerfile. packed_data (entries tree) dockerfile given) found)
    go None e = refl
    go (Some dockerfile) e = cc
