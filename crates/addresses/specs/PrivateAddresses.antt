-- What an index of addresses keeps.
use Rattle.std.specs.Prelude.{◌≡◌, ℕ, List}
use Rattle.std.specs.Map.{lookup}
use Rattle.std.specs.BTreeMap.{is_at}
use Rattle.paths.specs.Order.{name_cmp}
use Rattle.addresses.specs.Address.{place_of}

-- an index of addresses: the place of each, if it has one
pub record ArePlaces (known : List (List ℕ)) (places : List (List ℕ × ℕ)) : Type 0 where
  pub at : (address : List ℕ) → lookup (is_at (name_cmp address)) places ≡ place_of known address
