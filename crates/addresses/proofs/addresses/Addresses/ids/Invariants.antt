use Rattle.std.proofs.Common.{◌≡◌, ◌++◌, drop}
use Rattle.std.specs.Option.{option_map}
use Rattle.addresses.specs.Address.{places_of}
use Rattle.addresses.proofs.addresses.Addresses.ids.Given as goal

-- those found, with what is left
abbrev pub invariant-loop-address : goal.invariant-loop-address
invariant-loop-address l = option_map (λ rest. l.ids ++ rest) (places_of l.self (drop l.address-index l.addresses)) ≡ places_of l.self l.addresses
