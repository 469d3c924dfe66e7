use Rattle.std.proofs.Common.{ap, ◌∙◌}
use Rattle.trees.specs.PrivateNode.{lists_of, flat, are_parts}
use Rattle.trees.specs.PrivateSeen.{seen_kids, seen_parts}
use Rattle.trees.proofs.SeenSteps.{parts-seen, seen-parts}
use Rattle.trees.proofs.children.Children.placed.Goals as goal

pub invariant_of-result : goal.invariant_of-result
invariant_of-result c = ap are_parts (c.in_ok-parts.ensures ∙ ap (λ p. seen_parts c.args.options.now (lists_of p)) c.as_slice.ensures.value) ∙ parts-seen c.args.options.now (lists_of c.self.inside.parts.items) ∙ c.self.invariant

pub returns : goal.returns
returns c = ap flat (c.in_ok-parts.ensures ∙ ap (λ p. seen_parts c.args.options.now (lists_of p)) c.as_slice.ensures.value) ∙ seen-parts c.args.options.now (lists_of c.self.inside.parts.items) ∙ ap (seen_kids c.args.options.now) c.self.view_is
