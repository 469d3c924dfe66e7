-- What the map's words say in those of rows.
use Rattle.std.proofs.Common.{◌≡◌, ℕ, Bool, true, false, cond, ◌||◌, List, [], ◌∷◌, ◌++◌, Option, Some, None, is_some, bytes_eq, refl, sym, ap, ◌∙◌, true≢false, if◌then◌else◌}
use Rattle.std.proofs.lemmas.List.{append_assoc}
use Rattle.std.proofs.lemmas.Map.Keys.{IsDistinct-head, IsDistinct-tail}
use Rattle.std.specs.Cmp.Lexicographic.{nat_list_eq_equiv}
use Rattle.std.specs.List.{IsDistinct, AllByRecursion}
use Rattle.std.specs.Map.{lookup, keys_of}
use Rattle.indexmap.specs.IndexMap.{insert_entry}
use Rattle.named.specs.Rows.{put_row, put_rows, add_row, has_row, give_row}

-- one of two isn't, where neither is
neither : (a b : Bool) → (a || b) ≡ false → (a ≡ false) × (b ≡ false)
neither true b h = absurd (true≢false h)
neither false b h = (refl, h)

module _ {V : Type 0} where
  -- a name is found just where it has a row
  pub found-row : (name : List ℕ) (rows : List (List ℕ × V)) → is_some (lookup (bytes_eq name) rows) ≡ has_row name rows
  found-row name [] = refl
  found-row name (row ∷ rows) = by (bytes_eq name row.0) (found-row name rows)
    where
      by : (b : Bool) → is_some (lookup (bytes_eq name) rows) ≡ has_row name rows → is_some (cond b (Some row.1) (lookup (bytes_eq name) rows)) ≡ (b || has_row name rows)
      by true rest = refl
      by false rest = rest

  -- an entry is inserted as a row is put
  pub put-inserted : (rows : List (List ℕ × V)) (name : List ℕ) (value : V) → insert_entry bytes_eq rows name value ≡ put_row rows name value
  put-inserted [] name value = refl
  put-inserted (row ∷ rows) name value = ap (λ (rest : List (List ℕ × V)). if bytes_eq name row.0 then (row.0, value) ∷ rows else row ∷ rest) (put-inserted rows name value)

  -- a name that has no row goes last
  pub put-new : (rows : List (List ℕ × V)) (name : List ℕ) (value : V) → has_row name rows ≡ false → insert_entry bytes_eq rows name value ≡ rows ++ (name, value) ∷ []
  put-new [] name value h = refl
  put-new (row ∷ rows) name value h =
      let parts = neither (bytes_eq name row.0) (has_row name rows) h in
      ap (λ b. if b then (row.0, value) ∷ rows else row ∷ insert_entry bytes_eq rows name value) parts.0 ∙ ap (λ (rest : List (List ℕ × V)). row ∷ rest) (put-new rows name value parts.1)

  -- a row is added where its name has none
  pub add-new : (rows : List (List ℕ × V)) (name : List ℕ) (value : V) → has_row name rows ≡ false → insert_entry bytes_eq rows name value ≡ add_row rows name value
  add-new rows name value h = put-new rows name value h ∙ sym (ap (λ b. if b then rows else rows ++ (name, value) ∷ []) h)

  pub add-old : (rows : List (List ℕ × V)) (name : List ℕ) (value : V) → has_row name rows ≡ true → rows ≡ add_row rows name value
  add-old rows name value h = sym (ap (λ b. if b then rows else rows ++ (name, value) ∷ []) h)

  pub put-step : (old new left rest all : List (List ℕ × V)) (name : List ℕ) (value : V) → left ≡ (name, value) ∷ rest → new ≡ insert_entry bytes_eq old name value → put_rows old left ≡ all → put_rows new rest ≡ all
  put-step old new left rest all name value is put h = ap (λ (rs : List (List ℕ × V)). put_rows rs rest) (put ∙ put-inserted old name value) ∙ ap (put_rows old) (sym is) ∙ h

  -- a name that is apart from those of some rows has none among them
  apart-has : (done more : List (List ℕ × V)) (row : List ℕ × V) → IsDistinct bytes_eq (keys_of (done ++ row ∷ more)) → has_row row.0 done ≡ false
  apart-has [] more row d = refl
  apart-has (first ∷ done) more row d =
      rw (nat_list_eq_equiv.symm row.0 first.0 ∙ apart done (IsDistinct-head bytes_eq first.0 (keys_of (done ++ row ∷ more)) d)) (apart-has done more row (IsDistinct-tail bytes_eq first.0 (keys_of (done ++ row ∷ more)) d))
    where
      apart : (rows : List (List ℕ × V)) → AllByRecursion (λ y. bytes_eq first.0 y ≡ false) (keys_of (rows ++ row ∷ more)) → bytes_eq first.0 row.0 ≡ false
      apart [] h = h.0
      apart (r ∷ rows) h = apart rows h.1

  -- rows of which no two have one name are put one after another as they stand
  pub put-apart : (done more : List (List ℕ × V)) → IsDistinct bytes_eq (keys_of (done ++ more)) → put_rows done more ≡ done ++ more
  put-apart done [] d = sym (append_nil done)
    where
      append_nil : (rows : List (List ℕ × V)) → rows ++ [] ≡ rows
      append_nil [] = refl
      append_nil (r ∷ rows) = ap (λ (rest : List (List ℕ × V)). r ∷ rest) (append_nil rows)
  put-apart done (row ∷ more) d =
      ap (λ (rs : List (List ℕ × V)). put_rows rs more) (sym (put-inserted done row.0 row.1) ∙ put-new done row.0 row.1 (apart-has done more row d))
      ∙ put-apart (done ++ row ∷ []) more (rw (append_assoc done (row ∷ []) more) d)
      ∙ append_assoc done (row ∷ []) more

module _ {V : Type 0} where
  pub give-some : (rows : List (List ℕ × Option V)) (name : List ℕ) (value : V) → insert_entry bytes_eq rows name (Some value) ≡ give_row rows name (Some value)
  give-some [] name value = refl
  give-some (row ∷ rows) name value = ap (λ (rest : List (List ℕ × Option V)). if bytes_eq name row.0 then (row.0, Some value) ∷ rows else row ∷ rest) (give-some rows name value)

  -- where a name alone is given
  pub give-new : (rows : List (List ℕ × Option V)) (name : List ℕ) → has_row name rows ≡ false → insert_entry bytes_eq rows name None ≡ give_row rows name None
  give-new [] name h = refl
  give-new (row ∷ rows) name h = by (bytes_eq name row.0) h (give-new rows name)
    where
      by : (b : Bool) → (b || has_row name rows) ≡ false → (has_row name rows ≡ false → insert_entry bytes_eq rows name None ≡ give_row rows name None) → (if b then (row.0, None) ∷ rows else row ∷ insert_entry bytes_eq rows name None) ≡ (if b then (row.0, row.1) ∷ rows else row ∷ give_row rows name None)
      by true e rest = absurd (true≢false e)
      by false e rest = ap (λ (rest : List (List ℕ × Option V)). row ∷ rest) (rest e)

  pub give-old : (rows : List (List ℕ × Option V)) (name : List ℕ) → has_row name rows ≡ true → rows ≡ give_row rows name None
  give-old [] name h = absurd (true≢false (sym h))
  give-old (row ∷ rows) name h = by (bytes_eq name row.0) h (give-old rows name)
    where
      by : (b : Bool) → (b || has_row name rows) ≡ true → (has_row name rows ≡ true → rows ≡ give_row rows name None) → row ∷ rows ≡ (if b then (row.0, row.1) ∷ rows else row ∷ give_row rows name None)
      by true e rest = refl
      by false e rest = ap (λ (rest : List (List ℕ × Option V)). row ∷ rest) (rest e)

  -- a row that has a value, or whose name is new, is given by being put, and else nothing is done
  pub give-said : (rows : List (List ℕ × Option V)) (name : List ℕ) (value : Option V) → is_some value ≡ true → put_row rows name value ≡ give_row rows name value
  give-said rows name (Some value) e = sym (put-inserted rows name (Some value)) ∙ give-some rows name value
  give-said rows name None e = absurd (true≢false (sym e))

  pub give-fresh : (rows : List (List ℕ × Option V)) (name : List ℕ) (value : Option V) → has_row name rows ≡ false → put_row rows name value ≡ give_row rows name value
  give-fresh rows name (Some value) h = give-said rows name (Some value) refl
  give-fresh rows name None h = sym (put-inserted rows name None) ∙ give-new rows name h

  pub give-kept : (rows : List (List ℕ × Option V)) (name : List ℕ) (value : Option V) → is_some value ≡ false → has_row name rows ≡ true → rows ≡ give_row rows name value
  give-kept rows name (Some value) e h = absurd (true≢false e)
  give-kept rows name None e h = give-old rows name h
