use Rattle.std.proofs.Common.{ap, ◌∙◌, sym, subst, refl, None, Some}
use Rattle.std.proofs.lemmas.Result.{on_ok_weaker, on_err_weaker}
use Rattle.trees.proofs.NodeSteps.{keep-kid}
use Rattle.trees.proofs.CutSteps.{cut-kid, cut-step, cut-empty, cut-none, kids-kept}
use Rattle.std.proofs.Common.{◌≡◌, ◌+◌, ◌<◌, arith}
use Rattle.trees.specs.PrivateNode.{NodeValue, map_of, height_of, joined, IsCut}
use Rattle.trees.proofs.CutSteps.{long-path}
use Rattle.std.specs.Prelude.{is_ok}
use Rattle.std.specs.FinMap.{get}
use Rattle.trees.proofs.NodeSteps.{is-kid, at-err, there, found-lower}
use Rattle.trees.proofs.DepthSteps.{depth-cut}
use Rattle.trees.proofs.BelowSteps.{leaf-bare, leaf-cut}
use Rattle.std.specs.Arc.{arc_value}
use Rattle.trees.specs.PrivateHeld.{held_value}
use Rattle.trees.proofs.SeenSteps.{changed-here}
use Rattle.trees.proofs.+cutting.Goals as goal

pub inner::Inner::cut-returns-in_ok-cut-in-len1-up-clause-ok : goal.inner::Inner::cut-returns-in_ok-cut-in-len1-up-clause-ok
inner::Inner::cut-returns-in_ok-cut-in-len1-up-clause-ok t c =
    cut-step _ _ c.self.inside.kids c.cut.new.self _ c.name-item.result c.self.view_is c.in-len1-up.len_at_least c.name-item.is c.in_ok-cut-in-len1-up.ensures.ok

pub inner::Inner::cut-depth_of-self-inside-requires : goal.inner::Inner::cut-depth_of-self-inside-requires
inner::Inner::cut-depth_of-self-inside-requires t c =
    depth-cut c.self.inside.depth (joined c.self.inside.kids) (joined c.cut.new.self) c.name-item.result _ c.in_ok-cut-in-len1-up.ensures.ok c.self.invariant

pub children::Children::cut-cut-requires : goal.children::Children::cut-cut-requires
children::Children::cut-cut-requires t c =
    let low = found-lower c.args.self.now c.args.name.now c.in-Ok.kid.now c.in-Ok.ensures.kid in
    let d : height_of c.args.self.now + height_of c.args.self.now + 1 ≡ t = c.decreases in
    let g : c.in-Ok.kid.now.height + c.in-Ok.kid.now.height + 1 < t = omega arith in
    (g, long-path c.args.rest.now c.is_empty.result c.is_empty.ensures c.if-is_empty.false)

pub inner::Inner::cut-cut-requires : goal.inner::Inner::cut-cut-requires
inner::Inner::cut-cut-requires t c =
    let same : height_of c.self.inside.kids + 2 ≡ c.args.self.now.height = ap (λ v. v.height) c.self.view_is in
    let d : c.args.self.now.height + c.args.self.now.height ≡ t = c.decreases in
    let g : height_of c.self.inside.kids + height_of c.self.inside.kids + 1 < t = omega arith in
    (g, tt)

pub children::Children::cut-returns-then-is_empty-clause-ok : goal.children::Children::cut-returns-then-is_empty-clause-ok
children::Children::cut-returns-then-is_empty-clause-ok t c =
    on_ok_weaker _ (λ h. cut-kid c.args.self.now c.remove.new.self c.args.name.now _ None _ refl h (cut-empty _ _ c.is_empty.result c.is_empty.ensures c.if-is_empty.true)) c.remove.ensures.ok

pub children::Children::cut-returns-in-Ok-clause-ok : goal.children::Children::cut-returns-in-Ok-clause-ok
children::Children::cut-returns-in-Ok-clause-ok t c =
    let new = c.own_mut.follows.lender c.cut.new.self in
    on_ok_weaker _ (cut-kid c.args.self.now new c.args.name.now _ (Some c.cut.new.self) _ (there c.args.self.now c.args.name.now (Some c.in-Ok.kid.now) c.in-Ok.ensures.kid) (c.own_mut.follows.holds c.cut.new.self (ap is_ok c.in-Ok.is))) c.cut.ensures.ok

pub children::Children::cut-returns-in-Ok-clause-err : goal.children::Children::cut-returns-in-Ok-clause-err
children::Children::cut-returns-in-Ok-clause-err t c =
    let new = c.own_mut.follows.lender c.cut.new.self in
    on_err_weaker _ (keep-kid c.args.self.now new c.args.name.now c.cut.new.self c.in-Ok.kid.now (there c.args.self.now c.args.name.now (Some c.in-Ok.kid.now) c.in-Ok.ensures.kid) (is-kid c.args.self.now new c.args.name.now c.cut.new.self (c.own_mut.follows.holds c.cut.new.self (ap is_ok c.in-Ok.is)))) c.cut.ensures.err

pub children::Children::cut-returns-in-Err-Because-clause-ok : goal.children::Children::cut-returns-in-Err-Because-clause-ok
children::Children::cut-returns-in-Err-Because-clause-ok t c =
    let none = there c.args.self.now c.args.name.now None (c.in-Err-Because.ensures.absent c.in-Err-Because.field-0-0 c.in-Err-Because.field-0-is) in
    cut-kid c.args.self.now c.own_mut.follows.lender-at-none c.args.name.now _ None None none (kids-kept _ _ _ (at-err c.own_mut.result c.in-Err-Because.field-0 c.in-Err-Because.is c.own_mut.follows.holds-at-none) none) (cut-none _)

pub node::Node::cut-returns-in_default-clause-ok : goal.node::Node::cut-returns-in_default-clause-ok
node::Node::cut-returns-in_default-clause-ok t c =
    subst (λ (n : NodeValue). IsCut (get (map_of c.args.self.now)) (get (map_of n)) c.args.path.now) (sym c.self.view_is)
    (leaf-cut c.args.self.now c.args.path.now (leaf-bare c.self.inside.held c.args.self.now c.in_default.field-0 c.self.view_is c.in_default.is) c.requires)

pub node::Node::cut-returns-in-Some-clause-ok : goal.node::Node::cut-returns-in-Some-clause-ok
node::Node::cut-returns-in-Some-clause-ok t c =
    on_ok_weaker c.cut.result (changed-here (λ v n. IsCut (get (map_of v)) (get (map_of n)) c.args.path.now) c.in-Folder.options (arc_value c.in-Folder.shared) c.in-Some.inner.now c.args.self.now c.cut.new.self (c.is_keeping.ensures c.if-is_keeping.true) c.in-Some.ensures.value
    (sym (ap held_value c.in-Folder.is) ∙ c.self.view_is)) c.cut.ensures.ok

pub node::Node::cut-returns-in-Some-clause-err : goal.node::Node::cut-returns-in-Some-clause-err
node::Node::cut-returns-in-Some-clause-err t c =
    on_err_weaker c.cut.result (changed-here (λ v n. map_of n ≡ map_of v) c.in-Folder.options (arc_value c.in-Folder.shared) c.in-Some.inner.now c.args.self.now c.cut.new.self (c.is_keeping.ensures c.if-is_keeping.true) c.in-Some.ensures.value
    (sym (ap held_value c.in-Folder.is) ∙ c.self.view_is)) c.cut.ensures.err
