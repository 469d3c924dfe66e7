use Rattle.std.proofs.Common.{◌≡◌, ◌++◌, drop, List, ℕ, bytes_eq}
use Rattle.std.specs.Map.{lookup}
use Rattle.warnings.specs.Known.{stage_lines}
use Rattle.warnings.proofs.known.stage_rows.Given as goal

-- a name is found in the rows so far and the lines that are left as in all lines
abbrev pub invariant-loop-instruction : goal.invariant-loop-instruction
invariant-loop-instruction l = (name : List ℕ)
    → lookup (bytes_eq name) (l.rows ++ stage_lines (drop l.instruction-index l.instructions)) ≡ lookup (bytes_eq name) (stage_lines l.instructions)
