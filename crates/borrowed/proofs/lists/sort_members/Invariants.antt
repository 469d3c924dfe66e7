use Rattle.std.proofs.Common.{◌≡◌, drop}
use Rattle.json.specs.Value.{members_view}
use Rattle.serde_json.specs.Data.{no_members}
use Rattle.borrowed.specs.PrivateRows.{rows_data}
use Rattle.borrowed.specs.Seen.{seen_members}
use Rattle.borrowed.proofs.lists.sort_members.Given as goal

-- the members that are left, put to those that are sorted, are all
abbrev pub invariant-loop-member : goal.invariant-loop-member
invariant-loop-member l = seen_members (members_view (drop l.member-index l.members)) (rows_data l.sorted.entries) ≡ seen_members (members_view l.members) no_members
