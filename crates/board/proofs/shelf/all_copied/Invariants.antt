use Rattle.std.proofs.Common.{◌≡◌, map, take}
use Rattle.std.specs.Option.{option_map}
use Rattle.trees.specs.Cause.{TreeOrCause}
use Rattle.board.proofs.shelf.all_copied.Given as goal

abbrev pub invariant-loop-place : goal.invariant-loop-place
invariant-loop-place g l = map (option_map (λ (value : TreeOrCause). value)) l.values.items ≡ map (option_map g.P.Place.stands) (take l.place-index l.places)
