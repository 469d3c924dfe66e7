-- What rows and names are, once one more is put.
use Rattle.std.specs.Prelude.{◌≡◌, ◌||◌, ℕ, Bool, true, false, cond, not, List, [], ◌∷◌, ◌++◌, bytes_eq, Option, None}
use Rattle.std.proofs.Common.{sym, ap, refl, ◌∙◌, true≢false, Result, Ok, Err, OnOk}
use Rattle.std.specs.List.{list_any}
use Rattle.plain.specs.declared.memory.Memory.{Memory}
use Rattle.named.specs.Rows.{put_row, put_rows, add_row, has_row}
use Rattle.imageconfig.specs.PrivateRows.{of_names, add_rows}
use Rattle.imageconfig.specs.Rows.{Row, add_name, add_names}

-- a row that is put adds its name, unless it is there
pub names-put : {V : Type 0} (rows : List (List ℕ × V)) (name : List ℕ) (value : V) → of_names (put_row rows name value) ≡ add_name (of_names rows) name
names-put [] name value = refl
names-put {V} (row ∷ rows) name value = by (bytes_eq name row.0) (names-put rows name value)
  where
    by : (b : Bool) → of_names (put_row rows name value) ≡ cond (list_any (bytes_eq name) (of_names rows)) (of_names rows) (of_names rows ++ name ∷ [])
        → of_names (cond b ((row.0, value) ∷ rows) (row ∷ put_row rows name value)) ≡ cond (b || list_any (bytes_eq name) (of_names rows)) (row.0 ∷ of_names rows) (row.0 ∷ of_names rows ++ name ∷ [])
    by true h = refl
    by false h = ap (λ (ns : List (List ℕ)). row.0 ∷ ns) h ∙ inside (list_any (bytes_eq name) (of_names rows))
      where
        inside : (b : Bool) → row.0 ∷ cond b (of_names rows) (of_names rows ++ name ∷ []) ≡ cond b (row.0 ∷ of_names rows) (row.0 ∷ of_names rows ++ name ∷ [])
        inside true = refl
        inside false = refl

pub names-put_all : {V : Type 0} (rows more : List (List ℕ × V)) → of_names (put_rows rows more) ≡ add_names (of_names rows) (of_names more)
names-put_all rows [] = refl
names-put_all rows (row ∷ more) = names-put_all (put_row rows row.0 row.1) more ∙ ap (λ (ns : List (List ℕ)). add_names ns (of_names more)) (names-put rows row.0 row.1)

-- names that were added, or weren't
pub names-added : {V : Type 0} (result : Result (Unit {0}) Memory) (rows new more : List (List ℕ × V)) (old names : List (List ℕ)) → of_names rows ≡ old → of_names more ≡ names → OnOk result (new ≡ put_rows rows more) → OnOk result (of_names new ≡ add_names old names)
names-added (Ok done) rows new more old names view given ok =
    ap of_names ok ∙ names-put_all rows more ∙ ap (λ (ns : List (List ℕ)). add_names ns (of_names more)) view ∙ ap (add_names old) given
names-added (Err memory) rows new more old names view given ok = tt

-- one row after another, where no name may be there twice
pub once-step : (old new : List Row) (name value : List ℕ) (left rest : List Row) (all : Option (List Row)) → left ≡ (name, value) ∷ rest → new ≡ add_row old name value → true ≡ not (has_row name old) → add_rows old left ≡ all → add_rows new rest ≡ all
once-step old new name value left rest all h j n k = by (has_row name old) refl n
  where
    by : (b : Bool) → has_row name old ≡ b → true ≡ not b → add_rows new rest ≡ all
    by true e t = absurd (true≢false t)
    by false e t =
        let shown : new ≡ old ++ (name, value) ∷ [] = j ∙ rw e refl in
        let first : add_rows old ((name, value) ∷ rest) ≡ add_rows (old ++ (name, value) ∷ []) rest = rw e refl in
        ap (λ (rows : List Row). add_rows rows rest) shown ∙ sym first ∙ ap (add_rows old) (sym h) ∙ k

pub once-twice : (old : List Row) (name value : List ℕ) (left rest : List Row) (all : Option (List Row)) → left ≡ (name, value) ∷ rest → false ≡ not (has_row name old) → add_rows old left ≡ all → all ≡ None
once-twice old name value left rest all h n k = by (has_row name old) refl n
  where
    by : (b : Bool) → has_row name old ≡ b → false ≡ not b → all ≡ None
    by true e t = (let first : add_rows old ((name, value) ∷ rest) ≡ None = rw e refl in sym k ∙ ap (add_rows old) h ∙ first)
    by false e t = absurd (true≢false (sym t))
