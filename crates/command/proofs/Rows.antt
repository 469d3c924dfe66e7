-- The rows of `--workers`: each holds a number within the range, whatever is added to them.
use Rattle.std.proofs.Common.{◌≡◌, Bool, true, false, cond, List, [], ◌∷◌, ◌++◌, Some, refl, sym, ap, ap₂, true≢false, ◌∙◌, codes, find, bytes_eq, slice_get, option_map, option_and_then, pos}
use Rattle.std.proofs.lemmas.Slice.Eq.{bytes_eq-Decides}
use Rattle.clap.specs.Words.{Row, Text, one_of, read_as}
use Rattle.clap.specs.ValueTests.{is_signed_in}
use Rattle.clap.specs.Walk.{has_row, more_values, row_text, stronger, with_values, without}
use Rattle.clap.specs.Lexer.{without_minus}
use Rattle.clap.specs.declared.builder.value_parser.Reading.{Reading}
use Rattle.clap.specs.declared.builder.value_parser.Reading.TheVariants.{WithoutMinus}
use Rattle.clap.specs.declared.parser.matches.ValueSource.{ValueSource}
use Rattle.plain.specs.Limits.{most_workers}
use Rattle.command.specs.CommandLine.{least_workers}

abbrev pub is_worker_text : Text → Bool
is_worker_text = is_signed_in (pos least_workers) (pos most_workers)

-- the first value of the row is a number of workers
pub record IsFine (row : Row) : Type 0 where
  pub how : row.reading ≡ WithoutMinus
  pub text : Text
  pub first : slice_get row.values 0 ≡ Some text
  pub passes : is_worker_text text ≡ true

abbrev pub is_worker_row : Row → Bool
is_worker_row row = bytes_eq row.id (codes "workers")

-- each row of the option is fine
abbrev pub Fine : List Row → Type 0
Fine [] = Unit {0}
Fine (row ∷ rows) = (is_worker_row row ≡ true → IsFine row) × Fine rows

pub Fine-without : (id : Text) (rows : List Row) → Fine rows → Fine (without id rows)
Fine-without id [] fine = tt
Fine-without id (row ∷ rows) fine = go (bytes_eq row.id id) (Fine-without id rows fine.1)
  where
    go : (b : Bool) → Fine (without id rows) → Fine (cond b ([] ++ rows) (row ∷ without id rows))
    go true later = fine.1
    go false later = (fine.0, later)

first_kept : (values more : List Text) (text : Text) → slice_get values 0 ≡ Some text → slice_get (values ++ more) 0 ≡ Some text
first_kept [] more text e = cc
first_kept (v ∷ values) more text e = e

IsFine-more : (source : ValueSource) (more : List Text) (row : Row) → IsFine row
    → IsFine (record row { values = row.values ++ more; source = Some (stronger row.source source) })
IsFine-more source more row fine = record {
  how = fine.how;
  text = fine.text;
  first = first_kept row.values more fine.text fine.first;
  passes = fine.passes;
}

pub Fine-with_values : (source : ValueSource) (text : Text) (more : List Text) (rows : List Row) → is_worker_text text ≡ true → Fine rows
    → Fine (with_values (codes "workers") WithoutMinus source (text ∷ more) rows)
Fine-with_values source text more [] passes fine =
    ((λ _. record { how = refl; text = text; first = refl; passes = passes }), tt)
Fine-with_values source text more (row ∷ rows) passes fine =
    go (is_worker_row row) (Fine-with_values source text more rows passes fine.1)
  where
    go : (b : Bool) → Fine (with_values (codes "workers") WithoutMinus source (text ∷ more) rows)
        → Fine (cond b (more_values source (text ∷ more) row ++ rows) (row ∷ with_values (codes "workers") WithoutMinus source (text ∷ more) rows))
    go true later = ((λ e. IsFine-more source (text ∷ more) row (fine.0 e)), fine.1)
    go false later = (fine.0, later)

-- a row of another argument is none of them, whatever is added to it
added_others : (id : Text) (source : ValueSource) (values : List Text) (row : Row) → bytes_eq id (codes "workers") ≡ false → bytes_eq row.id id ≡ true
    → is_worker_row (record row { values = row.values ++ values; source = Some (stronger row.source source) }) ≡ true → ⊥
added_others id source values row other same worker =
    true≢false (sym (ap (λ t. bytes_eq t (codes "workers")) (sym ((bytes_eq-Decides row.id id).0 same)) ∙ worker) ∙ other)

pub Fine-with_others : (id : Text) (how : Reading) (source : ValueSource) (values : List Text) (rows : List Row) → bytes_eq id (codes "workers") ≡ false
    → Fine rows → Fine (with_values id how source values rows)
Fine-with_others id how source values [] other fine = ((λ same. absurd (true≢false (sym same ∙ other))), tt)
Fine-with_others id how source values (row ∷ rows) other fine =
    go (bytes_eq row.id id) refl (Fine-with_others id how source values rows other fine.1)
  where
    go : (b : Bool) → bytes_eq row.id id ≡ b → Fine (with_values id how source values rows)
        → Fine (cond b (more_values source values row ++ rows) (row ∷ with_values id how source values rows))
    go true is later = ((λ worker. absurd (added_others id source values row other is worker)), fine.1)
    go false not later = (fine.0, later)

-- the option has a row, and it is fine
pub record HasFine (rows : List Row) : Type 0 where
  pub row : Row
  pub found : find is_worker_row rows ≡ Some row
  pub fine : IsFine row

has_fine_at : (b : Bool) (row : Row) (rows : List Row) → Fine (row ∷ rows) → is_worker_row row ≡ b
    → has_row (codes "workers") (row ∷ rows) ≡ true → (has_row (codes "workers") rows ≡ true → HasFine rows) → HasFine (row ∷ rows)
has_fine_at true row rows fine is has later = record { row = row; found = rw is refl; fine = fine.0 is }
has_fine_at false row rows fine not has later =
    let after = later (rw not at has) in
    record { row = after.row; found = rw not after.found; fine = after.fine }

pub has_fine : (rows : List Row) → Fine rows → has_row (codes "workers") rows ≡ true → HasFine rows
has_fine [] fine has = cc
has_fine (row ∷ rows) fine has = has_fine_at (is_worker_row row) row rows fine refl has (λ later. has_fine rows fine.1 later)

-- a default value gives it one
pub HasFine-with_values : (source : ValueSource) (text : Text) (more : List Text) (rows : List Row) → is_worker_text text ≡ true → Fine rows
    → HasFine (with_values (codes "workers") WithoutMinus source (text ∷ more) rows)
HasFine-with_values source text more [] passes fine =
    record { row = _; found = refl; fine = record { how = refl; text = text; first = refl; passes = passes } }
HasFine-with_values source text more (row ∷ rows) passes fine =
    go (is_worker_row row) refl (HasFine-with_values source text more rows passes fine.1)
  where
    go : (b : Bool) → is_worker_row row ≡ b → HasFine (with_values (codes "workers") WithoutMinus source (text ∷ more) rows)
        → HasFine (cond b (more_values source (text ∷ more) row ++ rows) (row ∷ with_values (codes "workers") WithoutMinus source (text ∷ more) rows))
    go true is later = record { row = _; found = rw is refl; fine = IsFine-more source (text ∷ more) row (fine.0 is) }
    go false not later = record { row = later.row; found = rw not later.found; fine = later.fine }

-- what `get_one` reads of it
pub one_of-fine : (rows : List Row) (has : HasFine rows) → one_of (codes "workers") rows ≡ Some (without_minus has.fine.text)
one_of-fine rows has =
    ap (option_and_then row_text) has.found ∙ ap₂ (λ how first. option_map (read_as how) first) has.fine.how has.fine.first
