use Rattle.std.proofs.Common.{◌≡◌}
use Rattle.std.specs.Prelude.{All}
use Rattle.packing.specs.Leaving.{Gathers}
use Rattle.packing.proofs.walking.read_all.Given as goal

-- what was read so far is gathered, and what is left to read is decided by the same lines
abbrev pub invariant-folders : goal.invariant-folders
invariant-folders g l = Gathers l.leaving l.found × All (λ one. one.lines ≡ l.leaving.lines) l.left.items
