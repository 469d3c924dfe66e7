-- What a build reads at the key `images` of a bundle that is packed.
use Rattle.std.proofs.Common.{◌≡◌, ◌∙◌, ℕ, Bool, true, false, not, cond, List, [], ◌∷◌, map, Option, Some, None, Ordering, Less, Equal, Greater, refl, sym, ap, subst, codes, bytes_eq, is_some, true≢false}
use Rattle.std.specs.Prelude.{◌||◌}
use Rattle.std.specs.FinMap.{find, get-empty, get-from_entries}
use Rattle.std.specs.List.{list_all, list_any}
use Rattle.std.specs.Option.{option_and_then, option_or}
use Rattle.std.specs.Ordering.{is_eq, match_ordering, nat_cmp}
use Rattle.std.specs.Cmp.Lexicographic.{nat_list_cmp_total, slice_cmp}
use Rattle.std.proofs.lemmas.Bool.{and_from, and_parts, not-true}
use Rattle.std.proofs.lemmas.Map.Text.{is_eq-slice_cmp}
use Rattle.std.proofs.lemmas.Slice.Eq.{bytes_eq-Decides}
use Rattle.serde_json.specs.Data.{Data, object, string, Members, no_members, member, put}
use Rattle.serde_json.specs.Find.{get, get_member}
use Rattle.serde_json.proofs.Views.{get_member-put, get_member-put_other}
use Rattle.paths.specs.Order.{name_cmp}
use Rattle.strict.specs.Strict.{members_in, rows_in}
use Rattle.trees.specs.Row.{Row}
use Rattle.scopes.specs.Scope.{names_differ}
use Rattle.imageconfig.specs.Reading.{config_in}
use Rattle.imageconfig.specs.declared.config.Config.{Config}
use Rattle.bundle.specs.declared.parts.ListedImage.{ListedImage}
use Rattle.bundle.specs.declared.parts.ReadImages.{ReadImages}
use Rattle.bundle.specs.Parts.{image_in, image_row, images_in, is_image_name, no_images, or_none, read_with}
use Rattle.packing.specs.Images.{AreRead, ImageRow, are_images, are_names, image_value, is_even, is_image, most_depth, names_of}
use Rattle.packing.specs.Packed.{Given, files_members, members_beside, packed_data, put_args, put_images, put_target, put_values}

-- ---- members each of which is an image under a name

abbrev AllFine : Members → Type 0
AllFine no_members = Unit {0}
AllFine (member k d ms) = (is_image_name k ≡ true) × ((is_some (image_in config_in d) ≡ true) × AllFine ms)

fine_put : (k : List ℕ) (d : Data) (ms : Members) → is_image_name k ≡ true → is_some (image_in config_in d) ≡ true → AllFine ms → AllFine (put k d ms)
fine_put k d no_members named read fine = (named, (read, tt))
fine_put k d (member l e ms) named read fine = by (slice_cmp nat_cmp k l) (fine_put k d ms named read fine.1.1)
  where
    by : (o : Ordering) → AllFine (put k d ms) → AllFine (match_ordering o (member k d (member l e ms)) (member l d ms) (member l e (put k d ms)))
    by Less later = (named, (read, fine))
    by Equal later = (fine.0, (read, fine.1.1))
    by Greater later = (fine.0, (fine.1.0, later))

is_read : (d : Data) → is_image d ≡ true → is_some (image_in config_in d) ≡ true
unfolding is_image
is_read d e = (and_parts (is_some (image_in config_in d)) (is_even most_depth d) e).0

fine_values : (images : List ImageRow) (ms : Members) → list_all is_image_name (names_of images) ≡ true → list_all (λ image. is_image image.1) images ≡ true → AllFine ms
    → AllFine (put_values images ms)
fine_values [] ms named all fine = fine
fine_values (image ∷ images) ms named all fine =
    let names = and_parts (is_image_name image.0) (list_all is_image_name (names_of images)) named in
    let parts = and_parts (is_image image.1) (list_all (λ other. is_image other.1) images) all in
    fine_values images (put image.0 image.1 ms) names.1 parts.1 (fine_put image.0 image.1 ms names.0 (is_read image.1 parts.0) fine)

-- what is read of such members
record AreRows (ms : Members) (rows : List (List ℕ × ListedImage Config)) : Type 0 where
  read : members_in (image_in config_in) ms ≡ Some rows
  named : list_all (λ row. is_image_name row.0) rows ≡ true
  each : (name : List ℕ) → find name_cmp name (map image_row rows) ≡ option_and_then image_value (get_member name ms)

some_at : {A : Type 0} (o : Option A) → is_some o ≡ true → (x : A) × (o ≡ Some x)
some_at None e = absurd (true≢false (sym e))
some_at (Some x) e = (x, refl)

with_row : (k : List ℕ) (d : Data) (ms : Members) → is_image_name k ≡ true → (listed : ListedImage Config) → image_in config_in d ≡ Some listed
    → (rows : List (List ℕ × ListedImage Config)) → AreRows ms rows → AreRows (member k d ms) ((k, listed) ∷ rows)
with_row k d ms name listed is rows later =
    record {
      read = rw (is, later.read) refl;
      named = and_from (is_image_name k) (list_all (λ row. is_image_name row.0) rows) name later.named;
      each = λ other. by other (later.each other) (slice_cmp nat_cmp other k);
    }
  where
    by : (other : List ℕ) → find name_cmp other (map image_row rows) ≡ option_and_then image_value (get_member other ms)
        → (o : Ordering) → cond (is_eq o) (Some (image_row (k, listed)).1) (find name_cmp other (map image_row rows)) ≡ option_and_then image_value (match_ordering o (get_member other ms) (Some d) (get_member other ms))
    by other others Less = others
    by other others Equal = rw is refl
    by other others Greater = others

rows_read : (ms : Members) → AllFine ms → (rows : List (List ℕ × ListedImage Config)) × AreRows ms rows
rows_read no_members fine = ([], record { read = refl; named = refl; each = λ name. refl })
rows_read (member k d ms) fine =
    let later = rows_read ms fine.1.1 in
    let one = some_at (image_in config_in d) fine.1.0 in
    ((k, one.0) ∷ later.0, with_row k d ms fine.0 one.0 one.1 later.0 later.1)

-- ---- what stands under a name

same_name : (name other : List ℕ) → is_eq (slice_cmp nat_cmp name other) ≡ true → name ≡ other
same_name name other e = (bytes_eq-Decides name other).0 (sym (is_eq-slice_cmp name other) ∙ e)

other_name : (name other : List ℕ) → is_eq (slice_cmp nat_cmp name other) ≡ false → name ≡ other → ⊥
other_name name other e same = true≢false (sym ((bytes_eq-Decides name other).1 same) ∙ (sym (is_eq-slice_cmp name other) ∙ e))

none_under : (name : List ℕ) (images : List ImageRow) → list_any (bytes_eq name) (names_of images) ≡ false → find name_cmp name images ≡ None
none_under name [] e = refl
none_under name (image ∷ images) e = by (bytes_eq name image.0) refl e (λ rest. none_under name images rest)
  where
    by : (b : Bool) → bytes_eq name image.0 ≡ b → (b || list_any (bytes_eq name) (names_of images)) ≡ false
        → (list_any (bytes_eq name) (names_of images) ≡ false → find name_cmp name images ≡ None)
        → cond (is_eq (slice_cmp nat_cmp name image.0)) (Some image.1) (find name_cmp name images) ≡ None
    by true is bad later = absurd (true≢false bad)
    by false is more later = rw (is_eq-slice_cmp name image.0 ∙ is) (later more)

under : (name : List ℕ) (images : List ImageRow) (ms : Members) → names_differ (names_of images) ≡ true
    → get_member name (put_values images ms) ≡ option_or (find name_cmp name images) (get_member name ms)
under name [] ms differ = refl
under name (image ∷ images) ms differ =
    let parts = and_parts (not (list_any (bytes_eq image.0) (names_of images))) (names_differ (names_of images)) differ in
    under name images (put image.0 image.1 ms) parts.1 ∙ by (is_eq (slice_cmp nat_cmp name image.0)) refl (not-true (list_any (bytes_eq image.0) (names_of images)) parts.0)
  where
    by : (b : Bool) → is_eq (slice_cmp nat_cmp name image.0) ≡ b → list_any (bytes_eq image.0) (names_of images) ≡ false
        → option_or (find name_cmp name images) (get_member name (put image.0 image.1 ms)) ≡ option_or (cond b (Some image.1) (find name_cmp name images)) (get_member name ms)
    by true is new =
        let same = same_name name image.0 is in
        let none : find name_cmp name images ≡ None = none_under name images (subst (λ n. list_any (bytes_eq n) (names_of images) ≡ false) (sym same) new) in
        let here : get_member name (put image.0 image.1 ms) ≡ Some image.1 = subst (λ n. get_member n (put image.0 image.1 ms) ≡ Some image.1) (sym same) (get_member-put image.0 image.1 ms) in
        rw (none, here) refl
    by false is new = rw (get_member-put_other name image.0 image.1 ms (other_name name image.0 is)) refl

or_nothing : {A : Type 0} (o : Option A) → option_or o None ≡ o
or_nothing None = refl
or_nothing (Some x) = refl

-- ---- the key `images`

values_read : (images : List ImageRow) → are_images images ≡ true
    → (found : ReadImages Config) × ((images_in config_in (object (put_values images no_members)) ≡ Some found) × AreRead images found.images)
unfolding images_in rows_in
values_read images are =
    let parts = and_parts (are_names (names_of images)) (list_all (λ image. is_image image.1) images) are in
    let names = and_parts (list_all is_image_name (names_of images)) (names_differ (names_of images)) parts.0 in
    let rows = rows_read (put_values images no_members) (fine_values images no_members names.0 parts.1 tt) in (
      read_with rows.0,
      (
        rw (rows.1.read, rows.1.named) refl,
        record {
          each = λ name.
              get-from_entries nat_list_cmp_total (map image_row rows.0) name ∙ rows.1.each name
              ∙ ap (option_and_then image_value) (under name images no_members names.1 ∙ or_nothing (find name_cmp name images));
        },
      ),
    )

apart : (a b : List ℕ) → bytes_eq a b ≡ false → a ≡ b → ⊥
apart a b other same = true≢false (sym ((bytes_eq-Decides a b).1 same) ∙ other)

without_target : (target : Option (List ℕ)) (ms : Members) → get_member (codes "images") (put_target target ms) ≡ get_member (codes "images") ms
without_target None ms = refl
without_target (Some target) ms = get_member-put_other (codes "images") (codes "target") (string target) ms (apart (codes "images") (codes "target") refl)

without_args : (args : List (List ℕ × List ℕ)) (ms : Members) → get_member (codes "images") (put_args args ms) ≡ get_member (codes "images") ms
without_args [] ms = refl
without_args (arg ∷ args) ms = get_member-put_other (codes "images") (codes "args") _ ms (apart (codes "images") (codes "args") refl)

without_images : (rows : List Row) (dockerfile : List ℕ) (target : Option (List ℕ)) (args : List (List ℕ × List ℕ))
    → get_member (codes "images") (members_beside rows dockerfile target args) ≡ None
without_images rows dockerfile target args = without_target target (put_args args (files_members rows dockerfile)) ∙ without_args args (files_members rows dockerfile)

abbrev IsReadAs : List ImageRow → Option Data → Type 0
IsReadAs images d = (found : ReadImages Config) × ((or_none no_images (images_in config_in) d ≡ Some found) × AreRead images found.images)

put_read : (images : List ImageRow) (ms : Members) → are_images images ≡ true → get_member (codes "images") ms ≡ None
    → IsReadAs images (get_member (codes "images") (put_images images ms))
put_read [] ms are none =
    subst (IsReadAs []) (sym none) (no_images, (refl, record { each = λ name. get-empty name_cmp name }))
put_read (image ∷ images) ms are none =
    subst (IsReadAs (image ∷ images)) (sym (get_member-put (codes "images") (object (put_values (image ∷ images) no_members)) ms)) (values_read (image ∷ images) are)

pub packed_images : (rows : List Row) (dockerfile : List ℕ) (given : Given) → are_images given.images ≡ true
    → IsReadAs given.images (get (codes "images") (packed_data rows dockerfile given))
unfolding packed_data
packed_images rows dockerfile given are =
    put_read given.images (members_beside rows dockerfile given.target given.args) are (without_images rows dockerfile given.target given.args)
