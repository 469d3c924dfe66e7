use Rattle.std.proofs.Common.{◌≡◌}
use Rattle.serde_json.specs.View.{members_view}
use Rattle.imageconfig.specs.Writing.{put_texts_of}
use Rattle.imageconfig.proofs.rows.members.Given as goal

-- what is left is put onto what is there
abbrev pub invariant-loop-name : goal.invariant-loop-name
invariant-loop-name l = put_texts_of l.name-iterator (members_view l.members.entries) ≡ put_texts_of l.initial.name-iterator (members_view l.initial.members.entries)
