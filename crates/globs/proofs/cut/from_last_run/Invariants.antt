use Rattle.std.proofs.Common.{◌≡◌, ◌↔◌, List, true, drop, ◌-◌}
use Rattle.globs.specs.Cut.{CanBeCut}
use Rattle.globs.proofs.cut.from_last_run.Given as goal

abbrev pub invariant-loop-index : goal.invariant-loop-index
invariant-loop-index g l =
    (items : List g.row.T.Denot)
    → CanBeCut {T = g.row.T.Denot} g.P.Fits.takes_any (λ part item. g.P.Fits.holds part item ≡ true) (drop (l.index - 1) l.parts) items
    ↔ CanBeCut {T = g.row.T.Denot} g.P.Fits.takes_any (λ part item. g.P.Fits.holds part item ≡ true) l.parts items
