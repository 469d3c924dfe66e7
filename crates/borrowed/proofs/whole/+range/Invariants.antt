use Rattle.std.proofs.Common.{◌≡◌, drop, length}
use Rattle.json.specs.Tree.{json_tokens, items_tokens, members_tokens}
use Rattle.json.specs.Value.{value_view, items_view, members_view}
use Rattle.borrowed.specs.PrivateRange.{items_in_range, members_in_range}
use Rattle.borrowed.proofs.whole.+range.Given as goal

abbrev pub decreases-is_in_range : goal.decreases-is_in_range
decreases-is_in_range l = length (json_tokens (value_view l.value.now))

abbrev pub decreases-are_in_range : goal.decreases-are_in_range
decreases-are_in_range l = length (items_tokens (items_view l.values.now))

abbrev pub decreases-are_members_in_range : goal.decreases-are_members_in_range
decreases-are_members_in_range l = length (members_tokens (members_view l.members.now))

-- the values that are left decide
abbrev pub invariant-are_in_range-loop-value : goal.invariant-are_in_range-loop-value
invariant-are_in_range-loop-value l = items_in_range (items_view l.values) ≡ items_in_range (items_view (drop l.value-index l.values))

-- the members that are left decide
abbrev pub invariant-are_members_in_range-loop-member : goal.invariant-are_members_in_range-loop-member
invariant-are_members_in_range-loop-member l = members_in_range (members_view l.members) ≡ members_in_range (members_view (drop l.member-index l.members))
