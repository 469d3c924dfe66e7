-- What contracts see of a store and of a lease.
use Rattle.std.specs.Prelude.{ℕ, List, refl}
use Rattle.std.specs.Coded.{Coded, code_by, coded×, coded_ℕ, coded_list}
use Rattle.trees.specs.TreeMap.{TreeMap}
use Rattle.trees.specs.contracts.tree.Tree as tree
use Rattle.cachemounts.specs.contracts.holds.Hold as hold
use Rattle.cachemounts.specs.contracts.content.Content as content
use Rattle.cachemounts.specs.declared.holds.Hold.{Hold}
use Rattle.cachemounts.specs.declared.content.Content.{Content}

-- the contents that the store began with and those that were held since, and the holds of the leases that are out, the oldest first (own)
pub record StoreValue : Type 0 where
  pub contents : List Content
  pub holds : List Hold

-- a store in plain data, for generic code (own)
abbrev pub store_code : Coded StoreValue
store_code = code_by (List Content × List Hold) (coded× (coded_list content.the_row.coded) (coded_list hold.the_row.coded)) (λ s. (s.contents, s.holds)) (λ t. record { contents = t.0; holds = t.1 }) (λ _. refl)

-- a lease: its holder, and the trees that were in its contents when it was taken, in the order of the uses (own)
pub record LeaseValue : Type 0 where
  pub holder : ℕ
  pub trees : List TreeMap

-- a lease in plain data, for generic code (own)
abbrev pub lease_code : Coded LeaseValue
lease_code = code_by (ℕ × List TreeMap) (coded× coded_ℕ (coded_list tree.the_row.coded)) (λ l. (l.holder, l.trees)) (λ t. record { holder = t.0; trees = t.1 }) (λ _. refl)
