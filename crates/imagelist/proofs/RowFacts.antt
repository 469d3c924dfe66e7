-- Images that are named one after another are those that are named in all.
use Rattle.std.proofs.Common.{◌≡◌, ℕ, Bool, true, false, ◌&&◌, ◌||◌, cond, List, [], ◌∷◌, ◌++◌, map, filter, Some, None, slice_get, bytes_eq, refl, sym, ap, ◌∙◌, true≢false, if◌then◌else◌, append_assoc}
use Rattle.std.specs.List.{list_any, position}
use Rattle.std.specs.Map.{lookup, keys_of, values_of}
use Rattle.std.specs.Cmp.Lexicographic.{nat_list_eq_equiv, texts_ties}
use Rattle.std.proofs.lemmas.List.{append-nil, map-append}
use Rattle.std.proofs.lemmas.List.Elements.{filter-append}
use Rattle.std.proofs.lemmas.List.Folds.{list_any-append}
use Rattle.indexmap.specs.IndexMap.{insert_entry, set_value_at}
use Rattle.indexmap.proofs.MapLemmas.{Found-position, Missing-position, insert_entry-first}
use Rattle.paths.proofs.FrontLaws.{name_same, name_itself}
use Rattle.imagelist.specs.Images.{is_among, first_after, each_once, Naming, is_of, use_of, uses_of}
use Rattle.imagelist.specs.PrivateCollecting.{with_use, only_use, with_naming, with_namings}
use Rattle.imagelist.specs.declared.image_rows.ImageUse.{ImageUse}

abbrev pub Names : Type 0
Names = List (List ℕ)

abbrev pub Rows : Type 0
Rows = List (List ℕ × ImageUse)

pub same_bytes : (a b : List ℕ) → bytes_eq a b ≡ true → a ≡ b
same_bytes a b e = name_same a b (sym (texts_ties a b) ∙ e)

pub bytes_itself : (a : List ℕ) → bytes_eq a a ≡ true
bytes_itself a = texts_ties a a ∙ name_itself a

-- ---- texts, each once

first_joined : (b : Bool) (text : List ℕ) (all front back : Names) → all ≡ front ++ back → (if b then all else text ∷ all) ≡ (if b then front else text ∷ front) ++ back
first_joined true text all front back same = same
first_joined false text all front back same = ap (λ (texts : Names). text ∷ texts) same

-- with one more text at the end
once_more : (before texts : Names) (text : List ℕ)
    → first_after before (texts ++ text ∷ []) ≡ first_after before texts ++ (if is_among (before ++ texts) text then [] else text ∷ [])
once_more before [] text = ap (λ (texts : Names). if is_among texts text then [] else text ∷ []) (sym (append-nil before))
once_more before (first ∷ texts) text =
    first_joined (is_among before first) first (first_after (before ++ first ∷ []) (texts ++ text ∷ [])) (first_after (before ++ first ∷ []) texts)
    (if is_among (before ++ first ∷ texts) text then [] else text ∷ [])
    (once_more (before ++ first ∷ []) texts text
    ∙ ap (λ (all : Names). first_after (before ++ first ∷ []) texts ++ (if is_among all text then [] else text ∷ [])) (append_assoc before (first ∷ []) texts))

-- a text among those before is among them with one more
still_among : (before : Names) (first text : List ℕ) → is_among before text ≡ true → is_among (before ++ first ∷ []) text ≡ true
still_among before first text there = list_any-append (bytes_eq text) before (first ∷ []) ∙ ap (λ b. b || is_among (first ∷ []) text) there

-- another text isn't among them with one more
not_among : (before : Names) (first text : List ℕ) → is_among before text ≡ false → bytes_eq text first ≡ false → is_among (before ++ first ∷ []) text ≡ false
not_among before first text absent other =
    list_any-append (bytes_eq text) before (first ∷ []) ∙ ap (λ b. b || is_among (first ∷ []) text) absent ∙ ap (λ c. c || false) other

-- the last of some texts is among them
last_among : (before : Names) (first text : List ℕ) → bytes_eq text first ≡ true → is_among (before ++ first ∷ []) text ≡ true
last_among before first text same = list_any-append (bytes_eq text) before (first ∷ []) ∙ by (is_among before text) (ap (λ c. c || false) same)
  where
    by : (b : Bool) → is_among (first ∷ []) text ≡ true → (b || is_among (first ∷ []) text) ≡ true
    by true e = refl
    by false e = e

-- what stands before doesn't come again
not_again : (before texts : Names) (text : List ℕ) → is_among before text ≡ true → is_among (first_after before texts) text ≡ false
not_again before [] text there = refl
not_again before (first ∷ texts) text there =
    by (is_among before first) refl (bytes_eq text first) refl (not_again (before ++ first ∷ []) texts text (still_among before first text there))
  where
    by : (b : Bool) → is_among before first ≡ b → (c : Bool) → bytes_eq text first ≡ c → is_among (first_after (before ++ first ∷ []) texts) text ≡ false
        → is_among (if b then first_after (before ++ first ∷ []) texts else first ∷ first_after (before ++ first ∷ []) texts) text ≡ false
    by true b c d rest = rest
    by false b true d rest = absurd (true≢false (sym there ∙ ap (λ t. is_among before t) (same_bytes text first d) ∙ b))
    by false b false d rest = ap (λ c. c || is_among (first_after (before ++ first ∷ []) texts) text) d ∙ rest

-- what doesn't stand before is among those that come first just where it comes at all
pub among_once : (before texts : Names) (text : List ℕ) → is_among before text ≡ false → is_among (first_after before texts) text ≡ is_among texts text
among_once before [] text absent = refl
among_once before (first ∷ texts) text absent =
    by (is_among before first) refl (bytes_eq text first) refl (λ d. among_once (before ++ first ∷ []) texts text (not_among before first text absent d))
  where
    by : (b : Bool) → is_among before first ≡ b → (c : Bool) → bytes_eq text first ≡ c
        → (bytes_eq text first ≡ false → is_among (first_after (before ++ first ∷ []) texts) text ≡ is_among texts text)
        → is_among (if b then first_after (before ++ first ∷ []) texts else first ∷ first_after (before ++ first ∷ []) texts) text ≡ (c || is_among texts text)
    by true b true d rest = absurd (true≢false (sym b ∙ ap (λ t. is_among before t) (sym (same_bytes text first d)) ∙ absent))
    by false b true d rest = ap (λ c. c || is_among (first_after (before ++ first ∷ []) texts) text) d
    by true b false d rest = rest d
    by false b false d rest = ap (λ c. c || is_among (first_after (before ++ first ∷ []) texts) text) d ∙ rest d

-- the names that come first after one
abbrev rest_of : Names → List ℕ → Names → Names
rest_of before first names = first_after (before ++ first ∷ []) names

-- ---- uses

abbrev use_by : List ℕ → Bool → ImageUse
use_by lines needed = record { lines = lines; needed = needed }

use_is : (lines others : List ℕ) (needed other : Bool) → lines ≡ others → needed ≡ other → use_by lines needed ≡ use_by others other
use_is lines others needed other same alike = ap (λ (ls : List ℕ). use_by ls needed) same ∙ ap (use_by others) alike

or_false : (b : Bool) → (b || false) ≡ b
or_false true = refl
or_false false = refl

abbrev row_of : List Naming → List ℕ → List ℕ × ImageUse
row_of namings name = (name, use_of namings name)

abbrev lines_in : List Naming → List ℕ → List ℕ
lines_in namings name = map (λ (naming : Naming). naming.line) (filter (is_of name) namings)

abbrev needs : List Naming → List ℕ → Bool
needs namings name = list_any (λ (naming : Naming). is_of name naming && naming.needed) namings

-- what one more naming is of this name or isn't
abbrev with_if : Bool → ImageUse → Naming → ImageUse
with_if b used naming = if b then with_use used naming.line naming.needed else used

module _ (namings : List Naming) (naming : Naming) where
  abbrev more : List Naming
  more = namings ++ naming ∷ []

  lines_more : (name : List ℕ) → lines_in more name ≡ lines_in namings name ++ lines_in (naming ∷ []) name
  lines_more name =
      ap (map (λ (n : Naming). n.line)) (filter-append (is_of name) namings (naming ∷ []))
      ∙ map-append (λ (n : Naming). n.line) (filter (is_of name) namings) (filter (is_of name) (naming ∷ []))

  needs_more : (name : List ℕ) → needs more name ≡ (needs namings name || needs (naming ∷ []) name)
  needs_more name = list_any-append (λ (n : Naming). is_of name n && n.needed) namings (naming ∷ [])

  used_by : (name : List ℕ) (b : Bool)
      → use_by (lines_in namings name ++ map (λ (n : Naming). n.line) (if b then naming ∷ [] else [])) (needs namings name || ((b && naming.needed) || false))
      ≡ with_if b (use_of namings name) naming
  used_by name true = ap (λ c. use_by (lines_in namings name ++ naming.line ∷ []) (needs namings name || c)) (or_false naming.needed)
  used_by name false = use_is (lines_in namings name ++ []) (lines_in namings name) (needs namings name || false) (needs namings name) (append-nil (lines_in namings name)) (or_false (needs namings name))

  -- the use of an image with one more naming
  used_more : (name : List ℕ) → use_of more name ≡ with_if (is_of name naming) (use_of namings name) naming
  used_more name =
      use_is (lines_in more name) (lines_in namings name ++ lines_in (naming ∷ []) name) (needs more name) (needs namings name || needs (naming ∷ []) name) (lines_more name) (needs_more name)
      ∙ used_by name (is_of name naming)

  -- rows of images that have other names stay
  same_rows : (names : Names) → is_among names naming.name ≡ false → map (row_of more) names ≡ map (row_of namings) names
  same_rows [] absent = refl
  same_rows (name ∷ names) absent = by (bytes_eq naming.name name) refl absent (λ f. same_rows names f)
    where
      by : (b : Bool) → bytes_eq naming.name name ≡ b → (b || is_among names naming.name) ≡ false
          → (is_among names naming.name ≡ false → map (row_of more) names ≡ map (row_of namings) names)
          → map (row_of more) (name ∷ names) ≡ map (row_of namings) (name ∷ names)
      by true e f rest = absurd (true≢false f)
      by false e f rest =
          ap (λ (u : ImageUse). (name, u) ∷ map (row_of more) names) (used_more name ∙ ap (λ b. with_if b (use_of namings name) naming) e)
          ∙ ap (λ (rows : Rows). (name, use_of namings name) ∷ rows) (rest f)

  -- a row that is new
  abbrev new_row : List ℕ × ImageUse
  new_row = (naming.name, only_use naming.line naming.needed)

  -- rows of names, as they are used before and after it
  abbrev rows_before : Names → Rows
  rows_before names = map (row_of namings) names

  abbrev rows_after : Names → Rows
  rows_after names = map (row_of more) names

  abbrev new_unless : Bool → Rows
  new_unless b = if b then [] else new_row ∷ []

  used_as : (name : List ℕ) (b : Bool) → is_of name naming ≡ b → use_of more name ≡ with_if b (use_of namings name) naming
  used_as name b e = used_more name ∙ ap (λ c. with_if c (use_of namings name) naming) e

  -- a row with one more naming, before others
  abbrev put_first : Bool → List ℕ → Names → Rows
  put_first c first rest =
      if c then (first, with_use (use_of namings first) naming.line naming.needed) ∷ rows_before rest else (first, use_of namings first) ∷ with_naming (rows_before rest) naming

  put_here : (first : List ℕ) (rest : Names) → bytes_eq naming.name first ≡ true → is_among rest naming.name ≡ false
      → put_first (bytes_eq naming.name first) first rest ≡ rows_after (first ∷ rest) ++ new_unless (bytes_eq naming.name first || is_among rest naming.name)
  put_here first rest d none =
      ap (λ c. put_first c first rest) d
      ∙ ap (λ (u : ImageUse). (first, u) ∷ rows_before rest) (sym (used_as first true d))
      ∙ ap (λ (rows : Rows). (first, use_of more first) ∷ rows) (sym (same_rows rest none) ∙ sym (append-nil (rows_after rest)))
      ∙ sym (ap (λ c. rows_after (first ∷ rest) ++ new_unless (c || is_among rest naming.name)) d)

  put_behind : (first : List ℕ) (rest : Names) → bytes_eq naming.name first ≡ false
      → with_naming (rows_before rest) naming ≡ rows_after rest ++ new_unless (is_among rest naming.name)
      → put_first (bytes_eq naming.name first) first rest ≡ rows_after (first ∷ rest) ++ new_unless (bytes_eq naming.name first || is_among rest naming.name)
  put_behind first rest d behind =
      ap (λ c. put_first c first rest) d
      ∙ ap (λ (rows : Rows). (first, use_of namings first) ∷ rows) behind
      ∙ ap (λ (u : ImageUse). (first, u) ∷ (rows_after rest ++ new_unless (is_among rest naming.name))) (sym (used_as first false d))
      ∙ sym (ap (λ c. rows_after (first ∷ rest) ++ new_unless (c || is_among rest naming.name)) d)

  rows_by : (before : Names) (first : List ℕ) (names : Names) (b c : Bool) → bytes_eq naming.name first ≡ c
      → with_naming (rows_before (rest_of before first names)) naming ≡ rows_after (rest_of before first names) ++ new_unless (is_among (rest_of before first names) naming.name)
      → with_naming (rows_before (if b then rest_of before first names else first ∷ rest_of before first names)) naming
      ≡ rows_after (if b then rest_of before first names else first ∷ rest_of before first names)
      ++ new_unless (is_among (if b then rest_of before first names else first ∷ rest_of before first names) naming.name)
  rows_by before first names true c d behind = behind
  rows_by before first names false true d behind =
      put_here first (rest_of before first names) d (not_again (before ++ first ∷ []) names naming.name (last_among before first naming.name d))
  rows_by before first names false false d behind = put_behind first (rest_of before first names) d behind

  -- the rows of names that come first, with one more naming
  rows_more : (before names : Names)
      → with_naming (rows_before (first_after before names)) naming ≡ rows_after (first_after before names) ++ new_unless (is_among (first_after before names) naming.name)
  rows_more before [] = refl
  rows_more before (first ∷ names) =
      rows_by before first names (is_among before first) (bytes_eq naming.name first) refl (rows_more (before ++ first ∷ []) names)

-- an image that isn't named has no use
abbrev no_use : ImageUse
no_use = use_by [] false

unused : (namings : List Naming) (name : List ℕ) → is_among (map (λ (n : Naming). n.name) namings) name ≡ false → use_of namings name ≡ no_use
unused [] name none = refl
unused (naming ∷ namings) name none = by (bytes_eq name naming.name) refl none (λ f. unused namings name f)
  where
    by : (b : Bool) → bytes_eq name naming.name ≡ b → (b || is_among (map (λ (n : Naming). n.name) namings) name) ≡ false
        → (is_among (map (λ (n : Naming). n.name) namings) name ≡ false → use_of namings name ≡ no_use) → use_of (naming ∷ namings) name ≡ no_use
    by true e f rest = absurd (true≢false f)
    by false e f rest =
        ap (λ b. use_by (map (λ (n : Naming). n.line) (if b then naming ∷ filter (is_of name) namings else filter (is_of name) namings)) ((b && naming.needed) || needs namings name))
        (nat_list_eq_equiv.symm naming.name name ∙ e)
        ∙ rest f

abbrev names_of : List Naming → Names
names_of namings = map (λ (n : Naming). n.name) namings

-- one more image
pub named_more : (namings : List Naming) (naming : Naming) → with_naming (uses_of namings) naming ≡ uses_of (namings ++ naming ∷ [])
named_more namings naming =
    rows_more namings naming [] (names_of namings)
    ∙ ap (λ b. rows_after namings naming (each_once (names_of namings)) ++ new_unless namings naming b) (among_once [] (names_of namings) naming.name refl)
    ∙ by (is_among (names_of namings) naming.name) refl
    ∙ sym (map-append (row_of (namings ++ naming ∷ [])) (each_once (names_of namings)) (if is_among (names_of namings) naming.name then [] else naming.name ∷ []))
    ∙ ap (rows_after namings naming) (sym (once_more [] (names_of namings) naming.name) ∙ ap each_once (sym (map-append (λ (n : Naming). n.name) namings (naming ∷ []))))
  where
    new_is : is_among (names_of namings) naming.name ≡ false → use_of (namings ++ naming ∷ []) naming.name ≡ only_use naming.line naming.needed
    new_is none =
        used_as namings naming naming.name true (bytes_itself naming.name)
        ∙ ap (λ (u : ImageUse). with_use u naming.line naming.needed) (unused namings naming.name none)

    by : (b : Bool) → is_among (names_of namings) naming.name ≡ b
        → (rows_after namings naming (each_once (names_of namings)) ++ new_unless namings naming b)
        ≡ (rows_after namings naming (each_once (names_of namings)) ++ rows_after namings naming (if b then [] else naming.name ∷ []))
    by true e = refl
    by false e = ap (λ (u : ImageUse). rows_after namings naming (each_once (names_of namings)) ++ (naming.name, u) ∷ []) (sym (new_is e))

-- some more, one after another
named_on : (done more : List Naming) → with_namings (uses_of done) more ≡ uses_of (done ++ more)
named_on done [] = ap uses_of (sym (append-nil done))
named_on done (naming ∷ more) =
    ap (λ (rows : Rows). with_namings rows more) (named_more done naming) ∙ named_on (done ++ naming ∷ []) more ∙ ap uses_of (append_assoc done (naming ∷ []) more)

pub named_all : (namings : List Naming) → with_namings [] namings ≡ uses_of namings
named_all namings = named_on [] namings

pub namings_append : (rows : Rows) (front back : List Naming) → with_namings rows (front ++ back) ≡ with_namings (with_namings rows front) back
namings_append rows [] back = refl
namings_append rows (naming ∷ front) back = namings_append (with_naming rows naming) front back

-- ---- a list of images that is changed

-- an image that is there gets another use
row_used : (rows : Rows) (naming : Naming) (used new : ImageUse) → lookup (bytes_eq naming.name) rows ≡ Some used → new ≡ with_use used naming.line naming.needed
    → insert_entry bytes_eq rows naming.name new ≡ with_naming rows naming
row_used [] naming used new found is = absurd cc
row_used (row ∷ rows) naming used new found is = by (bytes_eq naming.name row.0) found (λ f. row_used rows naming used new f is)
  where
    by : (b : Bool) → cond b (Some row.1) (lookup (bytes_eq naming.name) rows) ≡ Some used
        → (lookup (bytes_eq naming.name) rows ≡ Some used → insert_entry bytes_eq rows naming.name new ≡ with_naming rows naming)
        → (if b then (row.0, new) ∷ rows else row ∷ insert_entry bytes_eq rows naming.name new)
        ≡ (if b then (row.0, with_use row.1 naming.line naming.needed) ∷ rows else row ∷ with_naming rows naming)
    by true e rest =
        let same : used ≡ row.1 = cc in
        ap (λ (u : ImageUse). (row.0, u) ∷ rows) (is ∙ ap (λ (u : ImageUse). with_use u naming.line naming.needed) same)
    by false e rest = ap (λ (others : Rows). row ∷ others) (rest e)

pub row_put : (rows : Rows) (naming : Naming) (index : ℕ) (used new : ImageUse) → Some index ≡ position (bytes_eq naming.name) (keys_of rows)
    → slice_get (values_of rows) index ≡ lookup (bytes_eq naming.name) rows → slice_get (values_of rows) index ≡ Some used
    → new ≡ with_use used naming.line naming.needed → set_value_at rows index new ≡ with_naming rows naming
row_put rows naming index used new at_index value there is =
    sym (insert_entry-first bytes_eq naming.name new rows index (Found-position (bytes_eq naming.name) rows index (sym at_index)).first)
    ∙ row_used rows naming used new (sym value ∙ there) is

-- an image that isn't there is new
row_new : (rows : Rows) (naming : Naming) (used : ImageUse) → lookup (bytes_eq naming.name) rows ≡ None → used ≡ only_use naming.line naming.needed
    → insert_entry bytes_eq rows naming.name used ≡ with_naming rows naming
row_new [] naming used absent is = ap (λ (u : ImageUse). (naming.name, u) ∷ []) is
row_new (row ∷ rows) naming used absent is = by (bytes_eq naming.name row.0) absent (λ f. row_new rows naming used f is)
  where
    by : (b : Bool) → cond b (Some row.1) (lookup (bytes_eq naming.name) rows) ≡ None
        → (lookup (bytes_eq naming.name) rows ≡ None → insert_entry bytes_eq rows naming.name used ≡ with_naming rows naming)
        → (if b then (row.0, used) ∷ rows else row ∷ insert_entry bytes_eq rows naming.name used)
        ≡ (if b then (row.0, with_use row.1 naming.line naming.needed) ∷ rows else row ∷ with_naming rows naming)
    by true e rest = absurd cc
    by false e rest = ap (λ (others : Rows). row ∷ others) (rest e)

pub row_added : (rows : Rows) (naming : Naming) (name : List ℕ) (used : ImageUse) → None ≡ position (bytes_eq naming.name) (keys_of rows) → name ≡ naming.name
    → used ≡ only_use naming.line naming.needed → insert_entry bytes_eq rows name used ≡ with_naming rows naming
row_added rows naming name used absent called is =
    ap (λ (n : List ℕ). insert_entry bytes_eq rows n used) called ∙ row_new rows naming used (Missing-position (bytes_eq naming.name) rows (sym absent)).value is
