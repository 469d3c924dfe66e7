use Rattle.std.proofs.Common.{◌≡◌, drop}
use Rattle.imagelist.specs.Images.{namings_inside}
use Rattle.imagelist.specs.PrivateCollecting.{with_namings}
use Rattle.imagelist.proofs.collecting.add_instructions.Given as goal

-- what is added after the images so far is all
abbrev pub invariant-loop-resolved : goal.invariant-loop-resolved
invariant-loop-resolved l =
    with_namings l.rows (namings_inside l.needed (drop l.resolved-index l.instructions)) ≡ with_namings l.fn.rows (namings_inside l.needed l.instructions)
