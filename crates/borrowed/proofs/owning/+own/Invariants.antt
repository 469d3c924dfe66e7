use Rattle.std.proofs.Common.{◌≡◌, drop, take, length, map}
use Rattle.json.specs.Tree.{json_tokens, items_tokens, members_tokens}
use Rattle.json.specs.Value.{value_view, items_view as items_lent, members_view as members_lent}
use Rattle.serde_json.specs.Data.{no_members}
use Rattle.serde_json.specs.View.{view, members_view}
use Rattle.borrowed.specs.Seen.{data_of, seen_members}
use Rattle.borrowed.proofs.owning.+own.Given as goal

abbrev pub decreases-owned : goal.decreases-owned
decreases-owned l = length (json_tokens (value_view l.value.now))

abbrev pub decreases-owned_items : goal.decreases-owned_items
decreases-owned_items l = length (items_tokens (items_lent l.values.now))

abbrev pub decreases-owned_members : goal.decreases-owned_members
decreases-owned_members l = length (members_tokens (members_lent l.members.now))

-- the copies are those of the values so far
abbrev pub invariant-owned_items-loop-value : goal.invariant-owned_items-loop-value
invariant-owned_items-loop-value l = map view l.copies.items ≡ map data_of (take l.value-index l.values)

-- the members that are left, put to those that are copied, are all
abbrev pub invariant-owned_members-loop-member : goal.invariant-owned_members-loop-member
invariant-owned_members-loop-member l =
    seen_members (members_lent (drop l.member-index l.members)) (members_view l.copies.entries) ≡ seen_members (members_lent l.members) no_members
