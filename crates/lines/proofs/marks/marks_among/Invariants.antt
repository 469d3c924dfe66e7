use Rattle.std.proofs.Common.{◌≡◌, ◌++◌, drop, map}
use Rattle.std.specs.Prelude.{filter_map}
use Rattle.lines.specs.Marks.{mark_of}
use Rattle.lines.proofs.marks.marks_among.Given as goal

abbrev pub invariant-loop-piece : goal.invariant-loop-piece
invariant-loop-piece l = l.marks ++ filter_map mark_of (map (λ piece. piece.now) (drop l.piece-index l.pieces)) ≡ filter_map mark_of (map (λ piece. piece.now) l.pieces)
