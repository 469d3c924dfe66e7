use Rattle.std.proofs.Common.{ap, ◌∙◌}
use Rattle.std.specs.FinMap.{find}
use Rattle.paths.specs.Order.{name_cmp}
use Rattle.trees.specs.PrivateNode.{flat, lists_of, are_parts}
use Rattle.trees.proofs.PartSteps.{none-found, no-change, place-of, item-same, item-same_parts, taken-parts, taken-kids, gone-parts, gone-kids, anyway}
use Rattle.trees.proofs.children.Children.remove.Goals as goal

pub returns-in_default-clause-ok : goal.returns-in_default-clause-ok
returns-in_default-clause-ok c =
    no-change c.args.self.now _ c.args.name.now c.self.view_is (none-found c.args.name.now c.as_slice.result.now c.self.inside.parts.items c.args.self.now c.place-at.result c.self.view_is c.place-at.ensures c.as_slice.ensures.value c.in_default.ensures.item.3)

pub invariant_of-self-in_err-none_left : goal.invariant_of-self-in_err-none_left
invariant_of-self-in_err-none_left c =
    item-same_parts c.self.inside.parts.items c.place-at.result c.in-Some.part.now c.take_away.new.part c.in-Some.ensures.item.3.0 c.in-Some.ensures.item.1 c.self.invariant c.in_err-none_left.ensures.err

pub returns-in_err-none_left-clause-err : goal.returns-in_err-none_left-clause-err
returns-in_err-none_left-clause-err c =
    anyway c.from_residual.result (ap flat (item-same c.self.inside.parts.items c.place-at.result c.in-Some.part.now c.take_away.new.part c.in-Some.ensures.item.3.0 c.in-Some.ensures.item.1 c.in_err-none_left.ensures.err) ∙ c.self.view_is)

pub invariant_of-self-then-none_left : goal.invariant_of-self-then-none_left
invariant_of-self-then-none_left c =
    ap (λ is. are_parts (lists_of is)) c.remove.ensures.items ∙ gone-parts c.self.inside.parts.items c.place-at.result c.in-Some.part.now c.take_away.new.part c.in-Some.ensures.item.3.0 c.in-Some.ensures.item.1 c.self.invariant c.args.name.now c.in_ok-none_left.none_left c.in_ok-none_left.ensures.ok c.if-none_left.true

pub invariant_of-self-else-none_left : goal.invariant_of-self-else-none_left
invariant_of-self-else-none_left c =
    taken-parts c.self.inside.parts.items c.place-at.result c.in-Some.part.now c.take_away.new.part c.in-Some.ensures.item.3.0 c.in-Some.ensures.item.1 c.self.invariant c.args.name.now c.in_ok-none_left.none_left c.in_ok-none_left.ensures.ok c.if-none_left.false

pub returns-then-none_left-clause-ok : goal.returns-then-none_left-clause-ok
returns-then-none_left-clause-ok c =
    let place = place-of c.args.name.now c.as_slice.result.now c.self.inside.parts.items c.place-at.result c.place-at.ensures c.as_slice.ensures.value in
    record { at = λ d. ap (λ is. find name_cmp d (flat (lists_of is))) c.remove.ensures.items ∙ (gone-kids c.self.inside.parts.items c.place-at.result c.in-Some.part.now c.take_away.new.part c.in-Some.ensures.item.3.0 c.in-Some.ensures.item.1 c.self.invariant c.args.name.now c.in_ok-none_left.none_left c.in_ok-none_left.ensures.ok place c.args.self.now c.self.view_is c.if-none_left.true).at d }

pub returns-else-none_left-clause-ok : goal.returns-else-none_left-clause-ok
returns-else-none_left-clause-ok c =
    let place = place-of c.args.name.now c.as_slice.result.now c.self.inside.parts.items c.place-at.result c.place-at.ensures c.as_slice.ensures.value in
    taken-kids c.self.inside.parts.items c.place-at.result c.in-Some.part.now c.take_away.new.part c.in-Some.ensures.item.3.0 c.in-Some.ensures.item.1 c.self.invariant c.args.name.now c.in_ok-none_left.none_left c.in_ok-none_left.ensures.ok place c.args.self.now c.self.view_is
