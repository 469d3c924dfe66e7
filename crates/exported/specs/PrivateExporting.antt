-- What an index of operations keeps, and what the steps of an export answer.
use Rattle.std.specs.Prelude.{◌≡◌, ℕ, suc, Option, Some, None, Result, Ok, Err, List, [], ◌∷◌, bytes_eq, if◌then◌else◌}
use Rattle.std.specs.Option.{option_map}
use Rattle.std.specs.Map.{lookup}
use Rattle.std.specs.BTreeMap.{is_at}
use Rattle.paths.specs.Order.{name_cmp}
use Rattle.plain.specs.declared.fault.Fault.{Fault}
use Rattle.plain.specs.declared.fault.Fault.TheVariants.{Because, Memory}
use Rattle.exported.specs.declared.fault.Obstacle.{Obstacle}
use Rattle.exported.specs.Places.{digest_of}

-- the number of the first operation that has a digest
abbrev pub number_at : List (List ℕ) → List ℕ → Option ℕ
number_at [] digest = None
number_at (bytes ∷ ops) digest = if bytes_eq (digest_of bytes) digest then Some 0 else option_map suc (number_at ops digest)

-- an index of operations: the number of each, by its digest
pub record AreNumbered (ops : List (List ℕ)) (numbers : List (List ℕ × ℕ)) : Type 0 where
  pub at : (digest : List ℕ) → lookup (is_at (name_cmp digest)) numbers ≡ number_at ops digest

-- a step that changes what it is lent answers what is told: what is then there, or the obstacle
abbrev pub Changes : {A : Type 0} → Result A Obstacle → A → Result (Unit {0}) (Fault Obstacle) → Type 0
Changes told new (Ok done) = told ≡ Ok new
Changes told new (Err (Because obstacle)) = told ≡ Err obstacle
Changes told new (Err Memory) = Unit {0}

-- a step that answers something and changes what it is lent
abbrev pub Gives : {A B : Type 0} → Result (A × B) Obstacle → B → Result A (Fault Obstacle) → Type 0
Gives told new (Ok given) = told ≡ Ok (given, new)
Gives told new (Err (Because obstacle)) = told ≡ Err obstacle
Gives told new (Err Memory) = Unit {0}

-- a call answers what is told
abbrev pub Tells : {A : Type 0} → Result A Obstacle → Result A (Fault Obstacle) → Type 0
Tells told (Ok value) = told ≡ Ok value
Tells told (Err (Because obstacle)) = told ≡ Err obstacle
Tells told (Err Memory) = Unit {0}
