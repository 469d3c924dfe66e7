use Rattle.std.proofs.Common.{take}
use Rattle.std.specs.List.{AllByRecursion}
use Rattle.llbmessages.proofs.fits.look_at_all.Given as goal

-- what holds of the values so far
abbrev pub invariant-loop-value : goal.invariant-loop-value
invariant-loop-value g l = AllByRecursion g.T.Fit.fits (take l.value-index l.values)
