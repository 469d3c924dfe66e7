use Rattle.board.specs.PrivateFrontier.{IsLowering}
use Rattle.board.proofs.frontier.lower.Given as goal

abbrev pub invariant-loop-user : goal.invariant-loop-user
invariant-loop-user l = IsLowering l.users l.user-index l.initial.waiting l.waiting l.initial.available l.available
