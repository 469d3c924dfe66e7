-- The rows of DIR: each holds a value, whatever is added to them.
use Rattle.std.proofs.Common.{◌≡◌, Bool, true, false, cond, List, [], ◌∷◌, ◌++◌, Option, Some, None, refl, sym, codes, fold, bytes_eq, slice_get, is_some, true≢false}
use Rattle.clap.specs.Words.{Row, Rule, Text, first_of}
use Rattle.clap.specs.Takes.{is_given}
use Rattle.clap.specs.Walk.{default_rows, has_row, more_values, reading_by, with_default, with_values, without}
use Rattle.clap.specs.declared.builder.value_parser.Reading.{Reading}
use Rattle.clap.specs.declared.parser.matches.ValueSource.{ValueSource}
use Rattle.clap.specs.declared.parser.matches.ValueSource.TheVariants.{DefaultValue}

abbrev pub is_folder_row : Row → Bool
is_folder_row row = bytes_eq row.id (codes "DIR")

-- the row has a value
abbrev pub IsFilled : Row → Type 0
IsFilled row = is_some (slice_get row.values 0) ≡ true

-- each row of DIR has one
abbrev pub Filled : List Row → Type 0
Filled [] = Unit {0}
Filled (row ∷ rows) = (is_folder_row row ≡ true → IsFilled row) × Filled rows

pub Filled-without : (id : Text) (rows : List Row) → Filled rows → Filled (without id rows)
Filled-without id [] filled = tt
Filled-without id (row ∷ rows) filled = go (bytes_eq row.id id) (Filled-without id rows filled.1)
  where
    go : (b : Bool) → Filled (without id rows) → Filled (cond b ([] ++ rows) (row ∷ without id rows))
    go true later = filled.1
    go false later = (filled.0, later)

still_filled : (values more : List Text) → is_some (slice_get values 0) ≡ true → is_some (slice_get (values ++ more) 0) ≡ true
still_filled [] more some = absurd (true≢false (sym some))
still_filled (value ∷ values) more some = refl

-- a row of DIR that is new has a value
pub Filled-with_values : (id : Text) (how : Reading) (source : ValueSource) (values : List Text) (rows : List Row)
    → (bytes_eq id (codes "DIR") ≡ true → is_some (slice_get values 0) ≡ true) → Filled rows → Filled (with_values id how source values rows)
Filled-with_values id how source values [] some filled = (some, tt)
Filled-with_values id how source values (row ∷ rows) some filled =
    go (bytes_eq row.id id) (Filled-with_values id how source values rows some filled.1)
  where
    go : (b : Bool) → Filled (with_values id how source values rows)
        → Filled (cond b (more_values source values row ++ rows) (row ∷ with_values id how source values rows))
    go true later = ((λ is. still_filled row.values values (filled.0 is)), filled.1)
    go false later = (filled.0, later)

default_filled : (id : Text) (how : Reading) (values : List Text) (rows : List Row) → Filled rows → Filled (default_rows id how values rows)
default_filled id how [] rows filled = filled
default_filled id how (value ∷ values) rows filled = Filled-with_values id how DefaultValue (value ∷ values) rows (λ _. refl) filled

-- no default value takes one away
pub Filled-defaults : (rules : List Rule) (rows : List Row) → Filled rows → Filled (fold with_default rows rules)
Filled-defaults [] rows filled = filled
Filled-defaults (rule ∷ rules) rows filled = Filled-defaults rules (with_default rows rule) (go (has_row rule.id rows))
  where
    go : (b : Bool) → Filled (cond b rows (default_rows rule.id (reading_by rule) rule.defaults rows))
    go true = filled
    go false = default_filled rule.id (reading_by rule) rule.defaults rows filled

some_text : (found : Option Text) → is_some found ≡ true → (text : Text) × (found ≡ Some text)
some_text None some = absurd (true≢false (sym some))
some_text (Some text) some = (text, refl)

given_at : (b : Bool) (row : Row) (rows : List Row) → Filled (row ∷ rows) → is_folder_row row ≡ b → is_given (codes "DIR") (row ∷ rows) ≡ true
    → (is_given (codes "DIR") rows ≡ true → (text : Text) × (first_of (codes "DIR") rows ≡ Some text))
    → (text : Text) × (first_of (codes "DIR") (row ∷ rows) ≡ Some text)
given_at true row rows filled is given later = rw is (some_text (slice_get row.values 0) (filled.0 is))
given_at false row rows filled not given later = rw not (later (rw not at given))

-- where DIR was given, it has a value
pub given_folder : (rows : List Row) → Filled rows → is_given (codes "DIR") rows ≡ true → (text : Text) × (first_of (codes "DIR") rows ≡ Some text)
given_folder [] filled given = absurd (true≢false (sym given))
given_folder (row ∷ rows) filled given =
    given_at (is_folder_row row) row rows filled refl given (λ later. given_folder rows filled.1 later)
