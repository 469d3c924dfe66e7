use Rattle.std.proofs.Common.{◌≡◌, ◌++◌, drop, filter, map}
use Rattle.lines.specs.Marks.{is_mark}
use Rattle.meant.proofs.heredoc_faults.marks_among.Given as goal

-- the marks so far with those among the pieces that are left are all
abbrev pub invariant-loop-piece : goal.invariant-loop-piece
invariant-loop-piece l =
    map (λ mark. mark.now) l.marks.items ++ filter is_mark (map (λ piece. piece.now) (drop l.piece-index l.pieces)) ≡ filter is_mark (map (λ piece. piece.now) l.pieces)
