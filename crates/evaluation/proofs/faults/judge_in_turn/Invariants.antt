use Rattle.std.specs.FinMap.{get}
use Rattle.scopes.specs.Scope.{value_in}
use Rattle.evaluation.specs.PrivateKept.{is_wanted}
use Rattle.evaluation.proofs.JudgingFacts.{JudgedSoFar}
use Rattle.evaluation.proofs.faults.judge_in_turn.Given as goal

abbrev pub invariant-loop-stage : goal.invariant-loop-stage
invariant-loop-stage l =
    JudgedSoFar (get l.given.args.now) (value_in l.given.outer.now) l.given.images.now l.needed (is_wanted l.users) l.initial.stage-iterator.rest.items l.stage-iterator.rest.items l.judged
