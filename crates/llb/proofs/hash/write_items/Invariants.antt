use Rattle.std.proofs.Common.{◌≡◌, take}
use Rattle.std.specs.Prelude.{fold}
use Rattle.std.specs.List.{flat_map}
use Rattle.std.specs.Hash.DefaultHasher as sip
use Rattle.llb.proofs.hash.write_items.Given as goal

-- after the number of items, those so far are written
abbrev pub invariant-loop-item : goal.invariant-loop-item
invariant-loop-item g l = l.state ≡ fold sip.write l.initial.state (flat_map g.T.Written.writes (take l.item-index l.items))
