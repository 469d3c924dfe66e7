use Rattle.std.proofs.Common.{length}
use Rattle.trees.specs.PrivateNode.{AreLaid}
use Rattle.trees.proofs.lent_kids.LentKids.is_hidden_by.Given as goal

-- where those that are left of the upper children hide those that are left of the others, all hide all
abbrev pub invariant-loop-name : goal.invariant-loop-name
invariant-loop-name l = AreLaid l.kids l.uppers l.uppers → AreLaid l.self l.upper l.upper

abbrev pub decreases-loop-name : goal.decreases-loop-name
decreases-loop-name l = length l.kids
