use Rattle.std.proofs.Common.{◌≡◌}
use Rattle.serde_json.specs.View.{members_view}
use Rattle.imageconfig.specs.PrivateRows.{of_names}
use Rattle.imageconfig.specs.Writing.{put_names}
use Rattle.imageconfig.proofs.names.members.Given as goal

abbrev pub invariant-loop-name : goal.invariant-loop-name
invariant-loop-name l = put_names (of_names l.name-iterator) (members_view l.members.entries) ≡ put_names (of_names l.initial.name-iterator) (members_view l.initial.members.entries)
