-- Who holds what of which cache, and which tree is in each content, after a history of leases.
use Rattle.std.specs.Prelude.{ℕ, List, [], ◌∷◌, ◌++◌, Option}
use Rattle.std.specs.List.{fold}
use Rattle.trees.specs.TreeMap.{TreeMap}
use Rattle.runs.specs.declared.run.CacheUse.{CacheUse}
use Rattle.cachemounts.specs.declared.holds.Hold.{Hold}
use Rattle.cachemounts.specs.Holds.{new_holds, of_holder, without_holder}
use Rattle.cachemounts.specs.Content.{given_back}

-- what happens to caches: a holder takes them for its uses, gives trees back, or leaves and gives nothing back (own)
pub data Change : Type 0 where
  Takes : ℕ → List CacheUse → Change
  Gives : ℕ → List TreeMap → Change
  Leaves : ℕ → Change

-- the holds after one change more: a holder holds what it took until it gives trees back or leaves (own)
abbrev pub holds_then : List Hold → Change → List Hold
holds_then holds (Takes holder uses) = holds ++ new_holds holder holds uses
holds_then holds (Gives holder trees) = without_holder holder holds
holds_then holds (Leaves holder) = without_holder holder holds

-- the holds after some changes (own)
abbrev pub holders : List Change → List Hold
holders changes = fold holds_then [] changes

-- the tree in a content after one change more, made beside these holds: the one that was given back to it, else the one before (own)
abbrev pub content_then : List Hold → Change → List ℕ → Option ℕ → TreeMap → TreeMap
content_then holds (Takes holder uses) id slot before = before
content_then holds (Gives holder trees) id slot before = given_back (of_holder holder holds) trees id slot before
content_then holds (Leaves holder) id slot before = before

-- the tree in a content after changes, the first of them made beside these holds (own)
abbrev pub content_from : List Hold → List Change → List ℕ → Option ℕ → TreeMap → TreeMap
content_from holds [] id slot before = before
content_from holds (change ∷ changes) id slot before =
    content_from (holds_then holds change) changes id slot (content_then holds change id slot before)

-- the tree in a content after some changes: the one that the last of them gave back to it, else the one at the start (own)
abbrev pub content_after : (List ℕ → Option ℕ → TreeMap) → List Change → List ℕ → Option ℕ → TreeMap
content_after start changes id slot = content_from [] changes id slot (start id slot)
