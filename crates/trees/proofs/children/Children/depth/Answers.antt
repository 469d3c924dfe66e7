use Rattle.std.proofs.Common.{◌≤◌, ◌∙◌, ap, ℕ, List, subst, arith}
use Rattle.trees.specs.declared.copy.CopyOptions.{CopyOptions}
use Rattle.trees.specs.PrivateSeen.{seen_kids}
use Rattle.trees.proofs.SeenSteps.{seen_kids-keeping}
use Rattle.trees.specs.PrivateNode.{NodeValue, joined, IsDepth}
use Rattle.trees.proofs.DepthSteps.{depth-none, depth-step, max-left, max-right}
use Rattle.trees.proofs.children.Children.depth.Goals as goal

pub loop-kid-init : goal.loop-kid-init
loop-kid-init c = λ most less h. subst (λ (l : List (List ℕ × NodeValue)). IsDepth most (joined l)) (c.iter-kids.ensures.all ∙ ap (λ (o : CopyOptions). seen_kids o c.args.self.now) c.keeping.ensures ∙ seen_kids-keeping c.args.self.now) h

pub loop-kid-preserved : goal.loop-kid-preserved
loop-kid-preserved c = λ most less h.
    let left : c.loop-kid.depth ≤ c.max-depth.result = max-left c.loop-kid.depth c.lifted.result c.max-depth.result c.max-depth.ensures in
    let right : c.lifted.result ≤ c.max-depth.result = max-right c.loop-kid.depth c.lifted.result c.max-depth.result c.max-depth.ensures in
    c.loop-kid.invariant most (omega arith) (depth-step most c.depth.result c.loop-kid.kids c.next.new.self _ c.in-Some.kid c.in-Some.ensures (λ few. let up = c.lifted.ensures (omega arith) in omega arith) c.depth.ensures h)

pub returns : goal.returns
returns c = c.loop-kid.invariant c.loop-kid.depth (omega arith) (depth-none c.loop-kid.depth c.loop-kid.kids c.in_default.ensures.0)
