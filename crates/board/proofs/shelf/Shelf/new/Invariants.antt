use Rattle.std.proofs.Common.{◌≡◌, map, replicate, None}
use Rattle.std.specs.Option.{option_map}
use Rattle.board.proofs.shelf.Shelf.new.Given as goal

abbrev pub invariant-loop : goal.invariant-loop
invariant-loop g l = map (option_map g.P.Place.stands) l.places.items ≡ replicate l.counter None
