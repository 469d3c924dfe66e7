-- What a change does to a store, and when a store is well-formed.
use Rattle.std.specs.Prelude.{◌≡◌, ℕ, true, false, List, Option}
use Rattle.cachemounts.specs.Holds.{is_lawful, is_holder, nobody}
use Rattle.cachemounts.specs.Content.{tree_in, have_contents}
use Rattle.cachemounts.specs.Changes.{Change, holds_then, content_then}
use Rattle.cachemounts.specs.StoreValue.{StoreValue}

-- a store is another one after a change: its holds, and the tree in every content (own)
pub record IsAfter (change : Change) (old new : StoreValue) : Type 0 where
  pub holds : new.holds ≡ holds_then old.holds change
  pub contents : (id : List ℕ) (slot : Option ℕ) → tree_in new.contents id slot ≡ content_then old.holds change id slot (tree_in old.contents id slot)

-- a store is well-formed: no two holds clash, each content that is held is listed, and no hold has the number of leases without caches (own)
pub record IsStore (store : StoreValue) : Type 0 where
  pub lawful : is_lawful store.holds ≡ true
  pub contents : have_contents store.contents store.holds ≡ true
  pub apart : is_holder nobody store.holds ≡ false
