-- What a build of a file's target ends with (own).
use Rattle.std.specs.Prelude.{◌≡◌, ℕ, Some, None, Result, Ok, Err}
use Rattle.trees.specs.TreeMap.{TreeMap}
use Rattle.trees.specs.declared.cause.Cause.{Cause}
use Rattle.plans.specs.Value.{World}
use Rattle.lowering.specs.Meaning.{Rows, tree_of_stage, serial}

-- the target's tree if it has one; else the line and the cause of the first instruction that fails
abbrev pub IsOutcome : World → Rows → ℕ → Result TreeMap (ℕ × Cause) → Type 0
IsOutcome w rows target (Ok tree) = tree_of_stage w rows target ≡ Some tree
IsOutcome w rows target (Err failure) = (tree_of_stage w rows target ≡ None) × (serial w rows ≡ Some failure)
