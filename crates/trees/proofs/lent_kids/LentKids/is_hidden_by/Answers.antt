use Rattle.trees.proofs.OverSteps.{hidden-start, hidden-more, hidden-end}
use Rattle.trees.proofs.lent_kids.LentKids.is_hidden_by.Goals as goal

pub loop-name-init : goal.loop-name-init
loop-name-init c = hidden-start c.args.self.now c.args.upper.now c.iter-kids.result c.iter-uppers.result c.iter-kids.ensures.all c.iter-uppers.ensures.all

pub loop-name-preserved : goal.loop-name-preserved
loop-name-preserved c =
    λ laid. c.loop-name.invariant
    (hidden-more c.loop-name.kids c.next.new.self c.loop-name.uppers c.next-in-Some.new.self c.in-Some.name.now c.in-Some-next.upper_name.now c.in-Some.kid c.in-Some-next.upper_kid c.in-Some.ensures c.in-Some-next.ensures
    (c.same.ensures.0 c.if-not-same.false) (c.hides.ensures c.if-not-hides.false) laid)

pub returns : goal.returns
returns c = λ _. c.loop-name.invariant (hidden-end c.loop-name.kids c.loop-name.uppers c.in_default.ensures.0)
