-- Rows by names: what is found in them, and the images that they are.
use Rattle.std.specs.Prelude.{◌≡◌, ℕ, Bool, true, false, cond, List, [], ◌∷◌, ◌++◌, Option, Some, None, reverse, refl}
use Rattle.std.specs.BTreeMap.{is_at}
use Rattle.std.specs.Cmp.{eq_by_cmp_equiv}
use Rattle.std.specs.Cmp.Lexicographic.{nat_list_cmp_total}
use Rattle.std.specs.FinMap.{FinMap, entries, from_entries, get, insert, get-entries, get-from_entries}
use Rattle.std.specs.FinMap.Entries.{find}
use Rattle.std.specs.Map.{lookup}
use Rattle.std.specs.Option.{option_or}
use Rattle.std.specs.Ordering.{eq_by_cmp}
use Rattle.std.proofs.Common.{sym, ap, ◌∙◌, append_assoc, append-nil}
use Rattle.std.proofs.lemmas.Grind.{reverse_onto}
use Rattle.std.proofs.lemmas.List.{reverse-reverse}
use Rattle.paths.specs.Order.{name_cmp}

module _ {X : Type 0} where
  -- a row is found by its name in a map as in a list
  pub lookup_find : (name : List ℕ) (rows : List (List ℕ × X)) → lookup (is_at (name_cmp name)) rows ≡ find name_cmp name rows
  lookup_find name [] = refl
  lookup_find name (row ∷ rows) = ap (cond (eq_by_cmp name_cmp name row.0) (Some row.1)) (lookup_find name rows)

  -- it is found in the first of two lists, or else in the second
  pub find_append : (name : List ℕ) (rows more : List (List ℕ × X)) → find name_cmp name (rows ++ more) ≡ option_or (find name_cmp name rows) (find name_cmp name more)
  find_append name [] more = refl
  find_append name (row ∷ rows) more = by (eq_by_cmp name_cmp name row.0) (find_append name rows more)
    where
      by : (b : Bool) → find name_cmp name (rows ++ more) ≡ option_or (find name_cmp name rows) (find name_cmp name more)
          → cond b (Some row.1) (find name_cmp name (rows ++ more)) ≡ option_or (cond b (Some row.1) (find name_cmp name rows)) (find name_cmp name more)
      by true e = refl
      by false e = e

  or_assoc : (a b c : Option X) → option_or (option_or a b) c ≡ option_or a (option_or b c)
  or_assoc None b c = refl
  or_assoc (Some x) b c = refl

  one_row : (b : Bool) (x : X) (old : Option X) → option_or (cond b (Some x) None) old ≡ cond b (Some x) old
  one_row true x old = refl
  one_row false x old = refl

  -- a row that is put takes the place of one of its name
  pub row_put : (row : List ℕ × X) (rest : List (List ℕ × X)) (name : List ℕ) (old new : Option X) → new ≡ cond (is_at (name_cmp row.0) name) (Some row.1) old
      → option_or (find name_cmp name (reverse rest)) new ≡ option_or (find name_cmp name (reverse (row ∷ rest))) old
  row_put row rest name old new put =
      let front = find name_cmp name (reverse rest) in
      let turned : find name_cmp name (reverse (row ∷ rest)) ≡ option_or front (find name_cmp name (row ∷ [])) =
      ap (find name_cmp name) (reverse_onto rest row []) ∙ find_append name (reverse rest) (row ∷ []) in
      ap (option_or front) (put ∙ ap (λ b. cond b (Some row.1) old) ((eq_by_cmp_equiv nat_list_cmp_total).symm row.0 name))
      ∙ (ap (option_or front) (sym (one_row (eq_by_cmp name_cmp name row.0) row.1 old))
      ∙ (sym (or_assoc front (find name_cmp name (row ∷ [])) old) ∙ ap (λ found. option_or found old) (sym turned)))

  -- all of a map's rows, the last one first
  pub all_rows : (rows : FinMap name_cmp X) (items : List (List ℕ × X)) (name : List ℕ) (old : Option X) → items ≡ reverse (entries rows)
      → option_or (find name_cmp name (reverse items)) old ≡ option_or (get rows name) old
  all_rows rows items name old are =
      ap (λ found. option_or found old) (ap (λ its. find name_cmp name (reverse its)) are ∙ (ap (find name_cmp name) (reverse-reverse (entries rows)) ∙ sym (get-entries rows name)))

  -- a map has what is found in the rows that it is made of
  pub get_rows : (rows : List (List ℕ × X)) (name : List ℕ) → get (from_entries {R = name_cmp} rows) name ≡ lookup (is_at (name_cmp name)) rows
  get_rows rows name = get-from_entries nat_list_cmp_total rows name ∙ sym (lookup_find name rows)

  -- a map is made of the rows behind the first ones
  pub record IsRest (whole front : List (List ℕ × X)) (made : FinMap name_cmp X) : Type 0 where
    pub back : List (List ℕ × X)
    pub whole_is : whole ≡ front ++ back
    pub made_is : made ≡ from_entries back

  pub rest_start : (whole left : List (List ℕ × X)) (made : FinMap name_cmp X) → left ≡ whole → made ≡ from_entries [] → IsRest whole left made
  rest_start whole left made same is = record { back = []; whole_is = sym same ∙ sym (append-nil left); made_is = is }

  pub rest_more : (whole old new : List (List ℕ × X)) (row : List ℕ × X) (made next : FinMap name_cmp X) → old ≡ new ++ row ∷ [] → IsRest whole old made → next ≡ insert made row.0 row.1
      → IsRest whole new next
  rest_more whole old new row made next cut rest is = record {
    back = row ∷ rest.back;
    whole_is = rest.whole_is ∙ (ap (λ rows. rows ++ rest.back) cut ∙ append_assoc new (row ∷ []) rest.back);
    made_is = is ∙ ap (λ m. insert m row.0 row.1) rest.made_is;
  }

  pub rest_end : (whole left : List (List ℕ × X)) (made : FinMap name_cmp X) → left ≡ [] → IsRest whole left made → made ≡ from_entries whole
  rest_end whole left made none rest = rest.made_is ∙ ap (λ rows. from_entries rows) (sym (rest.whole_is ∙ ap (λ rows. rows ++ rest.back) none))
