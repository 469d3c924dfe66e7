use Rattle.evaluation.proofs.UserFacts.{Noted}
use Rattle.evaluation.proofs.users.Users.of.Given as goal

abbrev pub invariant-loop-user : goal.invariant-loop-user
invariant-loop-user l = Noted l.needed l.stages l.user l.last.items
