use Rattle.std.proofs.Common.{◌≡◌}
use Rattle.exported.specs.Metadata.{some_described}
use Rattle.exported.proofs.metadata.some_described.Given as goal

-- none so far
abbrev pub invariant-loop-said : goal.invariant-loop-said
invariant-loop-said l = some_described l.said-iterator ≡ some_described l.metadata.entries
