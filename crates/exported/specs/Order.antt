-- The order of a definition's operations, and of what something is said (BuildKit's LLB, `Definition`).
use Rattle.std.specs.Prelude.{◌≡◌, ℕ, None, List, [], ◌∷◌, ◌++◌, IsSome}
use Rattle.std.specs.List.{AllByRecursion}
use Rattle.std.specs.Map.{lookup, keys_of}
use Rattle.std.specs.BTreeMap.{is_at}
use Rattle.paths.specs.Order.{name_cmp}
use Rattle.llbmessages.specs.declared.op.Op.{Op}
use Rattle.llbmessages.specs.declared.definition.Definition.{Definition}
use Rattle.llbmessages.specs.Op.{op_bytes}
use Rattle.exported.specs.Places.{digest_of}
use Rattle.exported.specs.Operations.{end_op}
use Rattle.exported.specs.Exporting.{op_at}

-- the bytes of an operation, each input of which is the digest of one of these
abbrev pub IsOn : List (List ℕ) → List ℕ → Type 0
IsOn before bytes = (op : Op) × ((bytes ≡ op_bytes op) × AllByRecursion (λ input. IsSome (op_at before input.digest)) op.inputs)

-- operations that stand after these, each of whose inputs is one before it
abbrev pub AreInOrder : List (List ℕ) → List (List ℕ) → Type 0
AreInOrder before [] = Unit {0}
AreInOrder before (bytes ∷ ops) = IsOn before bytes × AreInOrder (before ++ bytes ∷ []) ops

-- operations that stand after these, none of which has the digest of one before it
abbrev pub AreApart : List (List ℕ) → List (List ℕ) → Type 0
AreApart before [] = Unit {0}
AreApart before (bytes ∷ ops) = (op_at before (digest_of bytes) ≡ None) × AreApart (before ++ bytes ∷ []) ops

-- the operations before the end of a definition have digests of their own
abbrev pub AreApartToTheEnd : Definition → Type 0
AreApartToTheEnd definition =
    (ops : List (List ℕ)) × ((digest : List ℕ) × ((definition.ops ≡ ops ++ op_bytes (end_op digest) ∷ []) × AreApart [] ops))

-- something is said of the digest of each operation, and of no other
pub record IsSaid (definition : Definition) : Type 0 where
  pub each : AllByRecursion (λ bytes. IsSome (lookup (is_at (name_cmp (digest_of bytes))) definition.metadata)) definition.ops
  pub only : AllByRecursion (λ digest. IsSome (op_at definition.ops digest)) (keys_of definition.metadata)
