-- Files of which each row is well formed after those before it.
use Rattle.std.proofs.Common.{◌≡◌, [], ◌∷◌, ◌++◌, Option, sym, ap, ◌∙◌, subst, append_assoc, append-nil}
use Rattle.rows.specs.declared.row.Stage.{Stage}
use Rattle.rows.specs.Rows.{Rows}
use Rattle.rows.specs.WellFormed.{IsRow, IsWellFormed}

-- each of some rows is well formed after those before it, row by row
abbrev pub EachRow : Rows → Rows → Type 0
EachRow front [] = Unit {0}
EachRow front (row ∷ rows) = IsRow front row × EachRow (front ++ row ∷ []) rows

head_is : (row other : Option Stage) (rows others : Rows) → row ∷ rows ≡ other ∷ others → row ≡ other
head_is row other rows others e = cc

tail_is : (row other : Option Stage) (rows others : Rows) → row ∷ rows ≡ other ∷ others → rows ≡ others
tail_is row other rows others e = cc

each_row : (front rows : Rows) → EachRow front rows → (before after : Rows) (row : Option Stage) → rows ≡ before ++ row ∷ after → IsRow (front ++ before) row
each_row front [] each [] after row e = absurd cc
each_row front [] each (first ∷ before) after row e = absurd cc
each_row front (first ∷ rows) each [] after row e =
    let none : front ≡ front ++ [] = sym (append-nil front) in
    subst (λ f. IsRow f row) none (subst (IsRow front) (head_is first row rows after e) each.0)
each_row front (first ∷ rows) each (second ∷ before) after row e =
    let same : first ≡ second = head_is first second rows (before ++ row ∷ after) e in
    let deeper = each_row (front ++ first ∷ []) rows each.1 before after row (tail_is first second rows (before ++ row ∷ after) e) in
    subst (λ f. IsRow f row) (append_assoc front (first ∷ []) before ∙ ap (λ r. front ++ r ∷ before) same) deeper

-- a file is well formed where each of its rows is, one after another
pub rows_are : (rows : Rows) → EachRow [] rows → IsWellFormed rows
rows_are rows each before after row e = each_row [] rows each before after row e
