use Rattle.std.proofs.Common.{◌≡◌, take}
use Rattle.memo.specs.PrivateGeneration.{trees_at}
use Rattle.memo.specs.PrivateSought.{inputs_of}
use Rattle.memo.proofs.step.are_at.Given as goal

-- the trees of the numbers so far are those so far
abbrev pub invariant-loop-place : goal.invariant-loop-place
invariant-loop-place l = trees_at l.kept (take l.place l.numbers) ≡ take l.place (inputs_of l.sought)
