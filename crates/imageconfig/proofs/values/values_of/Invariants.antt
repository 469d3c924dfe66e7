use Rattle.std.proofs.Common.{drop}
use Rattle.expand.specs.Expanding.{unexpanded, valued}
use Rattle.scopes.specs.Scope.{value_in}
use Rattle.imageconfig.proofs.LineFacts.{IsSoFar}
use Rattle.imageconfig.proofs.values.values_of.Given as goal

abbrev pub invariant-loop-word : goal.invariant-loop-word
invariant-loop-word l = IsSoFar (unexpanded (value_in l.before)) (valued (value_in l.before)) l.words (drop l.word-index l.words) l.found.fault l.found.values
