use Rattle.std.proofs.Common.{[], ◌∷◌, ◌++◌, arith}
use Rattle.trees.proofs.DepthSteps.{deeper-name, deeper-kid}
use Rattle.trees.proofs.KidLists.{passed-more}
use Rattle.trees.proofs.+sounding.Goals as goal

pub lent_kids::LentKids::is_deeper-returns-then-most-eq0 : goal.lent_kids::LentKids::is_deeper-returns-then-most-eq0
lent_kids::LentKids::is_deeper-returns-then-most-eq0 t c = λ true.
    deeper-name c.args.self.now c.loop-name.invariant.0 c.next.new.self c.loop-name.kids c.in-Some.name.now c.in-Some.kid c.iter-kids.ensures.ordered c.loop-name.invariant.1 c.in-Some.ensures c.args.most c.if-most-eq0.true

pub lent_kids::LentKids::is_deeper-returns-then-is_deeper : goal.lent_kids::LentKids::is_deeper-returns-then-is_deeper
lent_kids::LentKids::is_deeper-returns-then-is_deeper t c = λ true.
    deeper-kid c.args.self.now c.loop-name.invariant.0 c.next.new.self c.loop-name.kids c.in-Some.name.now c.in-Some.kid c.iter-kids.ensures.ordered c.loop-name.invariant.1 c.in-Some.ensures c.args.most (let not_none = c.if-most-eq0.false in omega arith) (c.is_deeper.ensures c.if-is_deeper.true)

pub lent_kids::LentKids::is_deeper-loop-name-preserved : goal.lent_kids::LentKids::is_deeper-loop-name-preserved
lent_kids::LentKids::is_deeper-loop-name-preserved t c =
    (c.loop-name.invariant.0 ++ (c.in-Some.name.now, c.in-Some.kid) ∷ [], passed-more c.args.self.now c.loop-name.invariant.0 c.next.new.self c.loop-name.kids c.in-Some.name.now c.in-Some.kid c.loop-name.invariant.1 c.in-Some.ensures)
