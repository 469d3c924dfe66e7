-- What workers did, in order, and each worker's own part of it; and what the seats of a table know of both.
use Rattle.std.specs.Prelude.{◌≡◌, ℕ, ◌<◌, ◌≤◌, ◌==◌, true, false, List, [], ◌∷◌, ◌++◌, if◌then◌else◌, refl}
use Rattle.std.specs.Coded.{Coded, code_by, coded×, coded_ℕ, coded_list}
use mathlib.Core.Option.{some}
use lib.ListN.{get_elem?}
use Rattle.atomic_table.specs.Table.{Me, Step}
use Rattle.atomic_table.specs.Seated.{TableId}
use Rattle.trees.specs.TreeMap.{TreeMap}
use Rattle.trees.specs.contracts.tree.Tree as tree
use Rattle.rolls.specs.declared.note.Note.{Note}
use Rattle.rolls.specs.declared.note.Told.{Told}
use Rattle.rolls.specs.contracts.note.Note as note
use Rattle.rolls.specs.declared.rule.View.{View}

-- the name of no roll (own)
abbrev pub no_table : TableId
no_table = record { words = 0; slots = 0; views_name = 0; atom = 0; block = 0; offset = 0; slot_names = [] }

-- what one worker did, of all that was done, in order (own)
abbrev pub of_worker : ℕ → List (ℕ × Told) → List Told
of_worker worker [] = []
of_worker worker (entry ∷ roll) = if entry.0 == worker then entry.1 ∷ of_worker worker roll else of_worker worker roll

-- a worker, and what it did (own)
pub record SlipValue : Type 0 where
  pub worker : ℕ
  pub mine : List Told

-- a note with what was lent, in plain data, for generic code (own)
abbrev pub told_code : Coded Told
told_code =
    code_by (Note × List TreeMap) (coded× note.the_row.coded (coded_list tree.the_row.coded))
    (λ t. (t.note, t.lent))
    (λ p. record { note = p.0; lent = p.1 })
    (λ _. refl)

-- a slip in plain data, for generic code (own)
abbrev pub slip_code : Coded SlipValue
slip_code =
    code_by (ℕ × List Told) (coded× coded_ℕ (coded_list told_code))
    (λ s. (s.worker, s.mine))
    (λ t. record { worker = t.0; mine = t.1 })
    (λ _. refl)

-- a seat that knows nothing (own)
abbrev pub nobody : View
nobody = record { keeps = false; all = []; gives = false; given = 0; sits = false; worker = 0; mine = [] }

-- the first seat, which is keeper and giver, before anything was done or given (own)
abbrev pub opener : View
opener = record { keeps = true; all = []; gives = true; given = 0; sits = false; worker = 0; mine = [] }

-- the keeper, who knows all that was done (own)
abbrev pub knower : List (ℕ × Told) → View
knower all = record { keeps = true; all = all; gives = false; given = 0; sits = false; worker = 0; mine = [] }

-- the giver, who knows how many slips were given (own)
abbrev pub giver : ℕ → View
giver given = record { keeps = false; all = []; gives = true; given = given; sits = false; worker = 0; mine = [] }

-- a worker's slip, which knows what that worker did (own)
abbrev pub sitter : ℕ → List Told → View
sitter worker mine = record { keeps = false; all = []; gives = false; given = 0; sits = true; worker = worker; mine = mine }

-- a seat that takes over what a slip knows (own)
abbrev pub with_sitter : View → View → View
with_sitter v w = record { keeps = v.keeps; all = v.all; gives = v.gives; given = v.given; sits = w.sits; worker = w.worker; mine = w.mine }

-- a seat that takes over what the giver knows (own)
abbrev pub with_giver : View → View → View
with_giver v w = record { keeps = v.keeps; all = v.all; gives = w.gives; given = w.given; sits = v.sits; worker = v.worker; mine = v.mine }

-- what the rule says of one seat: the keeper knows the whole roll, the giver the number of slips, and the slip of a worker, of which there is one, just what
-- the roll has of that worker (own)
pub record Fits (roll : List (ℕ × Told)) (keeper giving : ℕ) (place : ℕ → ℕ) (given by : ℕ) (v : View) : Type 0 where
  pub keeps : v.keeps ≡ true → (by ≡ keeper) × (v.all ≡ roll)
  pub gives : v.gives ≡ true → (by ≡ giving) × (v.given ≡ given)
  pub sits : v.sits ≡ true → (by ≡ place v.worker) × (v.worker < given) × (v.mine ≡ of_worker v.worker roll)

-- the rule: there is one roll that each seat fits, and who was given no slip stands nowhere on it (own)
pub record Keeps (views : List View) : Type 0 where
  pub roll : List (ℕ × Told)
  pub keeper : ℕ
  pub giving : ℕ
  pub place : ℕ → ℕ
  pub given : ℕ
  pub fits : (by : ℕ) (v : View) → get_elem? views by ≡ some v → Fits roll keeper giving place given by v
  pub fresh : (worker : ℕ) → given ≤ worker → of_worker worker roll ≡ []

-- keeper and slip after a note of the slip's worker (own)
abbrev pub noted : View → Told → View
noted v told =
    record { keeps = v.keeps; all = v.all ++ (v.worker, told) ∷ []; gives = v.gives; given = v.given; sits = v.sits; worker = v.worker; mine = v.mine ++ told ∷ [] }

-- a note was written with the trees that are lent with it, on the roll and on the slip beside the keeper, which agreed before (own)
abbrev pub Wrote : List TreeMap → Step Note → Me Note View → ℕ → Me Note View → Type 0
Wrote lent s v found w =
    (note : Note) → s.said ≡ some note → (w ≡ (noted v.0 (record { note = note; lent = lent }), v.1)) × (v.0.mine ≡ of_worker v.0.worker v.0.all)

-- nothing was written; a slip beside the keeper agrees with the roll, and beside the giver nobody without a slip stands on it (own)
abbrev pub Learnt : Step Note → Me Note View → ℕ → Me Note View → Type 0
Learnt s v found w =
    (w ≡ v) × (v.0.sits ≡ true → v.0.mine ≡ of_worker v.0.worker v.0.all)
    × (v.0.gives ≡ true → (worker : ℕ) → v.0.given ≤ worker → of_worker worker v.0.all ≡ [])
