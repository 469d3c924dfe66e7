use Rattle.std.proofs.Common.{◌≡◌, drop, map}
use Rattle.meant.specs.Mounts.{wrong_among}
use Rattle.meant.proofs.mounts.wrong_among.Given as goal

-- the pieces that are left decide
abbrev pub invariant-loop-piece : goal.invariant-loop-piece
invariant-loop-piece l = wrong_among (map (λ piece. piece.now) (drop l.piece-index l.pieces)) ≡ wrong_among (map (λ piece. piece.now) l.pieces)
