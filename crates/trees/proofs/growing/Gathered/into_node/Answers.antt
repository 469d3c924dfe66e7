use Rattle.std.proofs.Common.{ap, ◌∙◌, ◌≡◌}
use Rattle.std.proofs.lemmas.Result.{IfOk-weaker}
use Rattle.trees.specs.PrivateNode.{NodeValue, lists_of, kids_of, joined, node_of}
use Rattle.trees.proofs.GatheredSteps.{rows-rise, all-parts, all-are_parts, rise-of, deep-of}
use Rattle.trees.proofs.growing.Gathered.into_node.Goals as goal

pub close-requires-clause-rise : goal.close-requires-clause-rise
close-requires-clause-rise c = rows-rise c.self.inside.rows.items (lists_of c.self.inside.parts.items) c.self.inside.depth c.self.invariant

pub of_parts-requires-clause-parts : goal.of_parts-requires-clause-parts
of_parts-requires-clause-parts c =
    all-are_parts c.close.new.rows.items c.args.self c.close.new.parts.items c.reverse.new.self.items (c.in_ok-close.ensures.moved.same ∙ c.self.view_is) c.in_ok-close.ensures.none_left c.reverse.ensures.items c.in_ok-close.ensures.moved.full
    (rise-of c.args.self c.self.inside.rows.items (lists_of c.self.inside.parts.items) c.self.inside.depth c.self.view_is c.self.invariant)

pub of_parts-requires-clause-depth : goal.of_parts-requires-clause-depth
of_parts-requires-clause-depth c =
    deep-of c.args.self c.self.inside.rows.items (lists_of c.self.inside.parts.items) c.self.inside.depth (kids_of c.reverse.new.self) c.self.view_is c.self.invariant
    (all-parts c.close.new.rows.items c.args.self c.close.new.parts.items c.reverse.new.self.items (c.in_ok-close.ensures.moved.same ∙ c.self.view_is) c.in_ok-close.ensures.none_left c.reverse.ensures.items)

pub returns-clause-below : goal.returns-clause-below
returns-clause-below c =
    IfOk-weaker c.of_parts.result (λ n. n ≡ node_of c.args.entry (kids_of c.reverse.new.self)) (λ n. n.below ≡ joined c.args.self)
    (λ n is. ap (λ (v : NodeValue). v.below) is ∙ ap joined (all-parts c.close.new.rows.items c.args.self c.close.new.parts.items c.reverse.new.self.items (c.in_ok-close.ensures.moved.same ∙ c.self.view_is) c.in_ok-close.ensures.none_left c.reverse.ensures.items))
    c.of_parts.ensures
