use Rattle.std.proofs.Common.{◌≡◌, [], take, drop}
use Rattle.imagelist.specs.PrivateCollecting.{with_origins}
use Rattle.imagelist.proofs.collecting.add_origins.Given as goal

-- what is added after the images so far is all
abbrev pub invariant-loop-index : goal.invariant-loop-index
invariant-loop-index l =
    with_origins l.rows l.line l.needed (take l.index l.origins) (drop l.index l.origins) ≡ with_origins l.fn.rows l.line l.needed [] l.origins
