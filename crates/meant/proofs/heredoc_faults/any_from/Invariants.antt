use Rattle.std.proofs.Common.{◌≡◌, drop, map}
use Rattle.std.specs.List.{list_any}
use Rattle.meant.specs.HeredocFaults.{has_from}
use Rattle.meant.proofs.heredoc_faults.any_from.Given as goal

-- the pieces that are left decide
abbrev pub invariant-loop-piece : goal.invariant-loop-piece
invariant-loop-piece l = list_any has_from (map (λ piece. piece.now) (drop l.piece-index l.pieces)) ≡ list_any has_from (map (λ piece. piece.now) l.pieces)
