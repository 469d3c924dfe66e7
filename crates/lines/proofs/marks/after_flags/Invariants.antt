use Rattle.std.proofs.Common.{◌≡◌, drop, map}
use Rattle.lines.specs.Marks.{after_flags}
use Rattle.lines.proofs.marks.after_flags.Given as goal

abbrev pub invariant-loop-index : goal.invariant-loop-index
invariant-loop-index l = after_flags (map (λ piece. piece.now) (drop l.index l.pieces)) ≡ after_flags (map (λ piece. piece.now) l.pieces)
