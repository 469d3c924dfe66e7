use Rattle.std.proofs.Common.{◌≡◌, ◌++◌, map}
use Rattle.imageconfig.proofs.looked.keys_of.Given as goal

abbrev pub invariant-loop-key : goal.invariant-loop-key
invariant-loop-key l = l.keys ++ map (λ row. row.0) l.key-iterator.rest.items ≡ map (λ row. row.0) l.initial.key-iterator.rest.items
