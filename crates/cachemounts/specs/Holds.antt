-- Who holds what of which cache, and which uses may begin beside that (Dockerfile reference, RUN --mount=type=cache, sharing).
--
-- The holds of all leases that are out stand in one list, the oldest first. A cache has a common content, which shared uses hold together and a locked use
-- holds alone, and private slots, each with a content of its own.
use Rattle.std.specs.Prelude.{◌≡◌, ℕ, zero, suc, ◌+◌, ◌-◌, ◌^◌, ◌<◌, ◌==◌, Bool, true, false, not, ◌&&◌, if◌then◌else◌, List, [], ◌∷◌, map, filter, length, nat_eq}
use Rattle.std.specs.List.{list_any, list_all}
use Rattle.std.specs.Cmp.Lexicographic.{pointwise}
use Rattle.plain.specs.declared.sharing.Sharing.{Sharing}
use Rattle.plain.specs.declared.sharing.Sharing.TheVariants.{Shared, Private, Locked}
use Rattle.runs.specs.declared.run.CacheUse.{CacheUse}
use Rattle.cachemounts.specs.declared.holds.Access.{Access}
use Rattle.cachemounts.specs.declared.holds.Access.TheVariants.{Together, Alone, Slot}
use Rattle.cachemounts.specs.declared.holds.Hold.{Hold}

-- whether two ids of caches are one (own)
abbrev pub same_id : List ℕ → List ℕ → Bool
same_id id other = pointwise nat_eq id other

-- whether this holds the common content (own)
abbrev pub is_common : Access → Bool
is_common Together = true
is_common Alone = true
is_common (Slot slot) = false

-- whether this holds the common content alone, as a locked use does (own)
abbrev pub is_alone : Access → Bool
is_alone Together = false
is_alone Alone = true
is_alone (Slot slot) = false

-- whether this holds a private slot (own)
abbrev pub is_slot : ℕ → Access → Bool
is_slot slot Together = false
is_slot slot Alone = false
is_slot slot (Slot other) = other == slot

-- whether a hold is of the common content of a cache (own)
abbrev pub holds_common : List ℕ → Hold → Bool
holds_common id hold = same_id hold.id id && is_common hold.access

-- whether a hold is of a cache's common content alone (own)
abbrev pub holds_alone : List ℕ → Hold → Bool
holds_alone id hold = same_id hold.id id && is_alone hold.access

-- whether a hold is of a private slot of a cache (own)
abbrev pub holds_slot : List ℕ → ℕ → Hold → Bool
holds_slot id slot hold = same_id hold.id id && is_slot slot hold.access

-- whether a use of a cache may begin beside these holds: a locked one where nobody holds the common content, a shared one where no locked use does, a
-- private one always (Dockerfile reference)
abbrev pub may_begin : List Hold → List ℕ → Sharing → Bool
may_begin holds id Locked = not (list_any (holds_common id) holds)
may_begin holds id Shared = not (list_any (holds_alone id) holds)
may_begin holds id Private = true

-- whether all these uses may begin (own)
abbrev pub can_take : List Hold → List CacheUse → Bool
can_take holds uses = list_all (λ (mount : CacheUse). may_begin holds mount.id mount.sharing) uses

-- the first number from `slot` on that isn't held, or `slot + more` where all below that are (own)
abbrev pub first_free : (ℕ → Bool) → ℕ → ℕ → ℕ
first_free held slot zero = slot
first_free held slot (suc more) = if held slot then first_free held (slot + 1) more else slot

-- the lowest private slot of a cache that nobody holds: it is among the first `length holds + 1`, since each hold is of one slot at most (own)
abbrev pub lowest_free : List Hold → List ℕ → ℕ
lowest_free holds id = first_free (λ slot. list_any (holds_slot id slot) holds) 0 (length holds)

-- the lowest slot of a cache that nobody holds (own)
pub record IsLowestFree (holds : List Hold) (id : List ℕ) (slot : ℕ) : Type 0 where
  pub free : list_any (holds_slot id slot) holds ≡ false
  pub lower : (j : ℕ) → j < slot → list_any (holds_slot id j) holds ≡ true

-- what a use holds of its cache once it has begun (Dockerfile reference)
abbrev pub access_for : List Hold → List ℕ → Sharing → Access
access_for holds id Locked = Alone
access_for holds id Shared = Together
access_for holds id Private = Slot (lowest_free holds id)

-- the hold of a use that begins (own)
abbrev pub new_hold : ℕ → List Hold → CacheUse → Hold
new_hold holder holds mount = record { holder = holder; id = mount.id; access = access_for holds mount.id mount.sharing }

-- the holds of uses that begin together; their ids differ, so none of them changes what another one holds (own)
abbrev pub new_holds : ℕ → List Hold → List CacheUse → List Hold
new_holds holder holds uses = map (new_hold holder holds) uses

-- the holds of one holder, in the order of its uses (own)
abbrev pub of_holder : ℕ → List Hold → List Hold
of_holder holder holds = filter (λ hold. hold.holder == holder) holds

-- the holds of the others (own)
abbrev pub without_holder : ℕ → List Hold → List Hold
without_holder holder holds = filter (λ hold. not (hold.holder == holder)) holds

-- whether a holder holds anything (own)
abbrev pub is_holder : ℕ → List Hold → Bool
is_holder holder holds = list_any (λ hold. hold.holder == holder) holds

-- the least number of a holder that holds nothing: it is among the first `length holds + 1`, since each hold is of one holder (own)
abbrev pub free_number : List Hold → ℕ
free_number holds = first_free (λ number. is_holder number holds) 0 (length holds)

-- the least number of a holder that holds nothing (own)
pub record IsFreeNumber (holds : List Hold) (number : ℕ) : Type 0 where
  pub free : is_holder number holds ≡ false
  pub lower : (j : ℕ) → j < number → is_holder j holds ≡ true

-- the number of a lease that has no cache: no holder that holds something has it (own)
unfoldable pub nobody : ℕ
nobody = 2 ^ 64 - 1

-- the number that a lease of these uses gets (own)
abbrev pub number_for : List Hold → List CacheUse → ℕ
number_for holds [] = nobody
number_for holds (mount ∷ uses) = free_number holds

-- whether one cache can't be held in both ways at once: its common content alone and by somebody else, or one slot twice (own)
abbrev pub accesses_clash : Access → Access → Bool
accesses_clash Together other = is_alone other
accesses_clash Alone other = is_common other
accesses_clash (Slot slot) Together = false
accesses_clash (Slot slot) Alone = false
accesses_clash (Slot slot) (Slot other) = slot == other

-- whether two holds can't be out together (own)
abbrev pub holds_clash : Hold → Hold → Bool
holds_clash hold other = same_id hold.id other.id && accesses_clash hold.access other.access

-- whether no two holds clash: a locked holder is alone on its common content, and nobody holds another one's slot (own)
abbrev pub is_lawful : List Hold → Bool
is_lawful [] = true
is_lawful (hold ∷ holds) = not (list_any (holds_clash hold) holds) && is_lawful holds
