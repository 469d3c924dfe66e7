use Rattle.std.proofs.Common.{◌≡◌, take}
use Rattle.addresses.specs.Address.{addresses_at}
use Rattle.addresses.proofs.addresses.Addresses.named.Given as goal

abbrev pub invariant-loop-id : goal.invariant-loop-id
invariant-loop-id l = l.named.items ≡ addresses_at l.self (take l.id-index l.ids)
