use Rattle.std.proofs.Common.{◌≡◌}
use Rattle.std.specs.Vec.Iter.{into_iter_items}
use Rattle.serde_json.specs.View.{members_view}
use Rattle.packing.specs.Packed.{put_values}
use Rattle.packing.specs.PrivateImages.{image_rows}
use Rattle.packing.proofs.members.values_of.Given as goal

-- what is left is put onto what is there
abbrev pub invariant-loop-name : goal.invariant-loop-name
invariant-loop-name l = put_values (image_rows (into_iter_items l.name-iterator)) (members_view l.members.entries) ≡ put_values (image_rows l.fn.images) (members_view l.initial.members.entries)
