use Rattle.std.proofs.Common.{◌≡◌, ◌||◌, drop, List, ℕ, bytes_eq}
use Rattle.std.specs.List.{filter_map, list_any}
use Rattle.named.specs.Rows.{has_row}
use Rattle.warnings.specs.Known.{given_name}
use Rattle.warnings.proofs.known.add_all.Given as goal

-- a name has a row, or is one of those that are left, as it is of all
abbrev pub invariant-loop-argument : goal.invariant-loop-argument
invariant-loop-argument l = (name : List ℕ)
    → (has_row name l.given || list_any (bytes_eq name) (filter_map given_name (drop l.argument-index l.arguments)))
    ≡ (has_row name l.fn.given || list_any (bytes_eq name) (filter_map given_name l.arguments))
