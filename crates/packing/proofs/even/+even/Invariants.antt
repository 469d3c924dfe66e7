use Rattle.std.proofs.Common.{◌≡◌, ◌+◌, drop}
use Rattle.serde_json.specs.View.{items_view, members_view}
use Rattle.packing.specs.PrivateImages.{items_even, members_even}
use Rattle.packing.proofs.even.+even.Given as goal

abbrev pub decreases-is_even : goal.decreases-is_even
decreases-is_even l = l.most + l.most

abbrev pub decreases-are_even : goal.decreases-are_even
decreases-are_even l = l.most + l.most + 1

abbrev pub decreases-are_members_even : goal.decreases-are_members_even
decreases-are_members_even l = l.most + l.most + 1

-- the values that are left decide
abbrev pub invariant-are_even-loop-value : goal.invariant-are_even-loop-value
invariant-are_even-loop-value l = items_even l.most (items_view l.values) ≡ items_even l.most (items_view (drop l.value-index l.values))

-- the members that are left decide
abbrev pub invariant-are_members_even-loop-value : goal.invariant-are_members_even-loop-value
invariant-are_members_even-loop-value l = members_even l.most (members_view l.fn.members.entries) ≡ members_even l.most (members_view l.value-iterator)
