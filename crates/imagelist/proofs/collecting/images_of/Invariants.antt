use Rattle.std.proofs.Common.{◌≡◌, [], drop}
use Rattle.imagelist.specs.Images.{namings_from}
use Rattle.imagelist.specs.PrivateCollecting.{with_namings}
use Rattle.imagelist.proofs.collecting.images_of.Given as goal

-- what is added after the images so far is all
abbrev pub invariant-loop-number : goal.invariant-loop-number
invariant-loop-number l = with_namings l.images (namings_from l.marks l.number (drop l.number l.stages)) ≡ with_namings [] (namings_from l.marks 0 l.stages)
