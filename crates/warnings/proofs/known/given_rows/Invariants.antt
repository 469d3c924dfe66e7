use Rattle.std.proofs.Common.{◌≡◌, ◌||◌, drop, List, ℕ, bytes_eq}
use Rattle.std.specs.List.{list_any}
use Rattle.named.specs.Rows.{has_row}
use Rattle.warnings.specs.Known.{given_names}
use Rattle.warnings.proofs.known.given_rows.Given as goal

-- a name has a row, or is one of those that are left, as it is of all
abbrev pub invariant-loop-instruction : goal.invariant-loop-instruction
invariant-loop-instruction l = (name : List ℕ)
    → (has_row name l.given || list_any (bytes_eq name) (given_names (drop l.instruction-index l.instructions))) ≡ list_any (bytes_eq name) (given_names l.instructions)
