-- Each child is less high than its folder.
use Rattle.std.specs.Prelude.{ℕ, ◌+◌, ◌≤◌, max, List, [], ◌∷◌}
use Rattle.std.proofs.Common.{arith}
use denote.Param.Weighed.{most}
use Rattle.trees.specs.PrivateNode.{NodeValue, kids_of, height_of, parts_fall}
use Rattle.trees.specs.PrivateHeld.{held_value}
use Rattle.trees.specs.declared.children.Children.TheInside.{Inside}
use Rattle.trees.specs.declared.children.Children.TheDeep.{deep-Children, deep-Names, deep-Node}
use Rattle.trees.specs.declared.children.Children.TheShapes.{weighed-Names-rows-at-2}
use Rattle.trees.specs.declared.names.Names.TheInside.{Inside as NamesInside}
use Rattle.trees.specs.declared.node.Node.TheInside.{Inside as NodeInside}
use Rattle.trees.specs.declared.node.Held.{Held}
use Rattle.trees.specs.declared.node.Held.TheVariants.{Leaf, Folder}
use Rattle.std.specs.Arc.{arc_value}

-- no part is higher than its folder
pub children_fall : (a : Inside) → deep-Children a ≤ height_of (kids_of a.parts) + height_of (kids_of a.parts) + 1
children_fall a = omega (arith, parts_fall a.parts.items)

abbrev weighed : List (List ℕ × NodeValue) → ℕ
weighed kids = most ((weighed-Names-rows-at-2).weight NodeValue (λ (y : NodeValue). y.height + y.height + 1 + 1)) kids

kids_fall : (kids : List (List ℕ × NodeValue)) → weighed kids ≤ height_of kids + height_of kids
kids_fall [] = omega arith
kids_fall (kid ∷ kids) =
    let rest = kids_fall kids in
    let one : max 0 (max (kid.1.height + kid.1.height + 1 + 1) 0) ≤ kid.1.height + kid.1.height + 1 + 1 = omega arith in
    let here : (weighed-Names-rows-at-2).weight NodeValue (λ (y : NodeValue). y.height + y.height + 1 + 1) kid ≤ kid.1.height + kid.1.height + 1 + 1 = one in
    omega (arith, rest, here)

-- each node is less high than its folder
pub names_fall : (a : NamesInside) → deep-Names a ≤ height_of a.rows.items + height_of a.rows.items
names_fall a = let h : max (weighed a.rows.items) 0 ≤ height_of a.rows.items + height_of a.rows.items = omega (arith, kids_fall a.rows.items) in h

-- what a node shares is less high than it
pub node_falls : (a : NodeInside) → deep-Node a ≤ (held_value a.held).height + (held_value a.held).height + 1
node_falls a = by a.held
  where
    by : (held : Held) → deep-Node (record { held = held }) ≤ (held_value held).height + (held_value held).height + 1
    by (Leaf entry) = let h : max 0 0 ≤ 5 = omega arith in h
    by (Folder inner options) = let h : max (max ((arc_value inner).height + (arc_value inner).height + 1) 0) 0 ≤ (arc_value inner).height + (arc_value inner).height + 1 = omega arith in h
