-- What a node holds, and what is lent of it (own).
use Rattle.std.specs.Prelude.{ℕ, Option, Some, None, List, []}
use Rattle.std.specs.Arc.{arc_value}
use Rattle.trees.specs.declared.node.Held.{Held}
use Rattle.trees.specs.declared.node.Held.TheVariants.{Leaf, Folder}
use Rattle.trees.specs.PrivateNode.{NodeValue, node_of}
use Rattle.trees.specs.PrivateSeen.{seen}

-- the node, wherever its entry lies
abbrev pub held_value : Held → NodeValue
held_value (Leaf entry) = node_of entry []
held_value (Folder inner options) = seen options (arc_value inner)

-- children that are lent, if there are any
abbrev pub kids_of_lent : Option (List (List ℕ × NodeValue)) → List (List ℕ × NodeValue)
kids_of_lent None = []
kids_of_lent (Some kids) = kids
