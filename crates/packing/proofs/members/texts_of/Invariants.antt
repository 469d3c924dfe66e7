use Rattle.std.proofs.Common.{◌≡◌, drop}
use Rattle.serde_json.specs.View.{members_view}
use Rattle.packing.specs.Packed.{put_texts}
use Rattle.packing.proofs.members.texts_of.Given as goal

-- what is left is put onto what is there
abbrev pub invariant-loop-name : goal.invariant-loop-name
invariant-loop-name l = put_texts (drop l.name-index l.rows) (members_view l.members.entries) ≡ put_texts l.rows (members_view l.initial.members.entries)
