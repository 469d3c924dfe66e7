-- What the tests on holds say.
use Rattle.std.proofs.Common.{◌≡◌, ◌≢◌, ℕ, zero, suc, ◌+◌, ◌<◌, ◌≤◌, ◌==◌, Bool, true, false, not, ◌&&◌, ◌||◌, cond, ◌⊎◌, inl, inr, List, [], ◌∷◌, ◌++◌, length, map, refl, sym, ap, ◌∙◌, arith}
use Rattle.std.specs.Prelude.{filter, nat_eq}
use Rattle.std.specs.List.{list_any, list_all}
use Rattle.std.specs.Cmp.Lexicographic.{pointwise}
use Rattle.std.proofs.lemmas.Bool.{eqb-true, eqb-false, ne_eqb, or_parts, or_from, and_parts, and_from, not-true, not_from_false, both_ways, cases_eq, cases_lt}
use Rattle.std.proofs.lemmas.List.Folds.{list_any-append}
use Rattle.std.proofs.lemmas.List.Elements.{filter-append}
use Rattle.std.proofs.lemmas.List.{append-nil}
use Rattle.std.proofs.Math.Bool.{and-false}
use Rattle.plain.specs.declared.sharing.Sharing.{Sharing}
use Rattle.plain.specs.declared.sharing.Sharing.TheVariants.{Shared, Private, Locked}
use Rattle.runs.specs.declared.run.CacheUse.{CacheUse}
use Rattle.runs.specs.Run.{ids_differ, ids_of}
use Rattle.cachemounts.specs.declared.holds.Access.{Access}
use Rattle.cachemounts.specs.declared.holds.Access.TheVariants.{Together, Alone, Slot}
use Rattle.cachemounts.specs.declared.holds.Hold.{Hold}
use Rattle.cachemounts.specs.Holds.{IsLowestFree, IsFreeNumber, free_number, nobody, same_id, is_common, is_alone, is_slot, holds_common, holds_alone, holds_slot, may_begin, can_take, first_free, lowest_free, access_for, new_hold, new_holds, of_holder, without_holder, is_holder, accesses_clash, holds_clash, is_lawful}

-- tests that agree everywhere find alike
any_same : {X : Type 0} (p q : X → Bool) → ((x : X) → p x ≡ q x) → (xs : List X) → list_any p xs ≡ list_any q xs
any_same p q same [] = refl
any_same p q same (x ∷ xs) = rw (same x, any_same p q same xs) refl

any_map : {X Y : Type 0} (p : X → Bool) (h : Y → X) (ys : List Y) → list_any p (map h ys) ≡ list_any (λ y. p (h y)) ys
any_map p h [] = refl
any_map p h (y ∷ ys) = ap (λ b. p (h y) || b) (any_map p h ys)

-- what no element passes none of a filtered list passes
pub any_filter_none : {X : Type 0} (p q : X → Bool) (xs : List X) → list_any p xs ≡ false → list_any p (filter q xs) ≡ false
any_filter_none p q [] e = refl
any_filter_none p q (x ∷ xs) e = by_test (any_filter_none p q xs (or_parts (p x) (list_any p xs) e).1) (q x) refl
  where
    by_test : list_any p (filter q xs) ≡ false → (b : Bool) → q x ≡ b → list_any p (filter q (x ∷ xs)) ≡ false
    by_test rest true t = rw t (or_from (p x) (list_any p (filter q xs)) (or_parts (p x) (list_any p xs) e).0 rest)
    by_test rest false t = rw t rest

-- an element that passes one test passes the filter, so that it is found there as well
any_filter_some : {X : Type 0} (p q : X → Bool) → ((x : X) → p x ≡ true → q x ≡ true) → (xs : List X) → list_any p xs ≡ true → list_any p (filter q xs) ≡ true
any_filter_some p q kept [] e = e
any_filter_some p q kept (x ∷ xs) e = by_tests (any_filter_some p q kept xs) (p x) refl (q x) refl
  where
    by_tests : (list_any p xs ≡ true → list_any p (filter q xs) ≡ true) → (b : Bool) → p x ≡ b → (d : Bool) → q x ≡ d → list_any p (filter q (x ∷ xs)) ≡ true
    by_tests rest true t true s = rw (s, t) refl
    by_tests rest true t false s = absurd (both_ways (q x) s (kept x t))
    by_tests rest false t true s = (let f : list_any p xs ≡ true = rw t at e in rw (s, t) (rest f))
    by_tests rest false t false s = (let f : list_any p xs ≡ true = rw t at e in rw s (rest f))

filter_le : {X : Type 0} (q : X → Bool) (xs : List X) → length (filter q xs) ≤ length xs
filter_le q [] = omega arith
filter_le q (x ∷ xs) = by_test (filter_le q xs) (q x) refl
  where
    by_test : length (filter q xs) ≤ length xs → (b : Bool) → q x ≡ b → length (filter q (x ∷ xs)) ≤ length (x ∷ xs)
    by_test rest true t = rw t (omega (arith, rest))
    by_test rest false t = rw t (omega (arith, rest))

-- a filter that an element fails leaves fewer
filter_less : {X : Type 0} (q : X → Bool) (xs : List X) → list_any (λ x. not (q x)) xs ≡ true → length (filter q xs) < length xs
filter_less q [] e = cc
filter_less q (x ∷ xs) e = by_test (filter_less q xs) (q x) refl
  where
    by_test : (list_any (λ y. not (q y)) xs ≡ true → length (filter q xs) < length xs) → (b : Bool) → q x ≡ b → length (filter q (x ∷ xs)) < length (x ∷ xs)
    by_test rest true t = (let f : list_any (λ y. not (q y)) xs ≡ true = rw t at e in let h = rest f in rw t (omega (arith, h)))
    by_test rest false t = (let h = filter_le q xs in rw t (omega (arith, h)))

other_slot : (m n : ℕ) (hold : Access) → m ≢ n → is_slot m hold ≡ true → is_slot n hold ≡ false
other_slot m n Together differ e = cc
other_slot m n Alone differ e = cc
other_slot m n (Slot slot) differ e = ne_eqb slot n (λ same. differ (sym (eqb-true slot m e) ∙ same))

-- a hold is of one slot at most
one_slot : (id : List ℕ) (m n : ℕ) (hold : Hold) → m ≢ n → holds_slot id m hold ≡ true → holds_slot id n hold ≡ false
one_slot id m n hold differ e =
    let parts = and_parts (same_id hold.id id) (is_slot m hold.access) e in
    ap (λ b. same_id hold.id id && b) (other_slot m n hold.access differ parts.1) ∙ and-false (same_id hold.id id)

-- a hold is of one holder
one_holder : (m n : ℕ) (hold : Hold) → m ≢ n → (hold.holder == m) ≡ true → (hold.holder == n) ≡ false
one_holder m n hold differ e = ne_eqb hold.holder n (λ same. differ (sym (eqb-true hold.holder m e) ∙ same))

-- where a hold has one number at most, so many numbers are those of as many holds at least
holds_few : (has : ℕ → Hold → Bool) → ((m n : ℕ) (hold : Hold) → m ≢ n → has m hold ≡ true → has n hold ≡ false) → (holds : List Hold) (n : ℕ) → ((k : ℕ) → k < n → list_any (has k) holds ≡ true) → n ≤ length holds
holds_few has one holds zero all = omega arith
holds_few has one holds (suc n) all =
    let here : list_any (λ t. not (others t)) holds ≡ true = sym (any_same (has n) (λ t. not (others t)) twice holds) ∙ all n (omega arith) in
    let fewer = filter_less others holds here in
    let rest = holds_few has one (filter others holds) n (λ k l. any_filter_some (has k) others (kept k l) holds (all k (omega (arith, l)))) in
    omega (arith, fewer, rest)
  where
    others : Hold → Bool
    others hold = not (has n hold)

    twice : (hold : Hold) → has n hold ≡ not (others hold)
    twice hold = elim (has n hold) as (λ b. b ≡ not (not b)) [ true ↦ refl | false ↦ refl ]

    kept : (k : ℕ) → k < n → (hold : Hold) → has k hold ≡ true → others hold ≡ true
    kept k l hold e = not_from_false (has n hold) (one k n hold (λ same. absurd (omega (arith, l, same))) e)

free_low : (held : ℕ → Bool) (slot more j : ℕ) → slot ≤ j → j < first_free held slot more → held j ≡ true
free_low held slot zero j l m = absurd (omega (arith, l, m))
free_low held slot (suc more) j l m = by_test (free_low held (slot + 1) more j) (held slot) refl (cases_eq slot j)
  where
    by_test : (slot + 1 ≤ j → j < first_free held (slot + 1) more → held j ≡ true) → (b : Bool) → held slot ≡ b → (slot ≡ j) ⊎ (slot ≡ j → ⊥) → held j ≡ true
    by_test rest true t (inl same) = rw (← same) t
    by_test rest true t (inr differ) = (let f : j < first_free held (slot + 1) more = rw t at m in rest (omega (arith, l, differ)) f)
    by_test rest false t o = (let f : j < slot = rw t at m in absurd (omega (arith, f, l)))

free_found : (held : ℕ → Bool) (slot more : ℕ) → (held (first_free held slot more) ≡ false) ⊎ (first_free held slot more ≡ slot + more)
free_found held slot zero = inr (omega arith)
free_found held slot (suc more) = by_test (free_found held (slot + 1) more) (held slot) refl
  where
    by_test : (held (first_free held (slot + 1) more) ≡ false) ⊎ (first_free held (slot + 1) more ≡ (slot + 1) + more) → (b : Bool) → held slot ≡ b → (held (first_free held slot (suc more)) ≡ false) ⊎ (first_free held slot (suc more) ≡ slot + suc more)
    by_test (inl free) true t = inl (rw t free)
    by_test (inr past) true t = inr (rw t (omega (arith, past)))
    by_test rest false t = inl (rw t t)

-- where a hold has one number at most, the first number that no hold has is found among the first `length holds + 1`
first_free-is : (has : ℕ → Hold → Bool) → ((m n : ℕ) (hold : Hold) → m ≢ n → has m hold ≡ true → has n hold ≡ false) → (holds : List Hold) → (list_any (has (first_free (λ n. list_any (has n) holds) 0 (length holds))) holds ≡ false) × ((j : ℕ) → j < first_free (λ n. list_any (has n) holds) 0 (length holds) → list_any (has j) holds ≡ true)
first_free-is has one holds = (is_free (held first) refl, low)
  where
    held : ℕ → Bool
    held n = list_any (has n) holds

    first : ℕ
    first = first_free held 0 (length holds)

    low : (j : ℕ) → j < first → held j ≡ true
    low j l = free_low held 0 (length holds) j (omega arith) l

    is_free : (b : Bool) → held first ≡ b → held first ≡ false
    is_free false e = e
    is_free true e = elim (free_found held 0 (length holds)) [
      | inl free ↦ free
      | inr past ↦
          let few = holds_few has one holds (suc (length holds)) (λ j l. all j l past) in
          absurd (omega (arith, few))
    ]
      where
        all : (j : ℕ) → j < suc (length holds) → first ≡ 0 + length holds → held j ≡ true
        all j l past = elim (cases_lt j first) [
          | inl before ↦ low j before
          | inr after ↦ (let same : first ≡ j = omega (arith, l, past, after) in rw (← same) e)
        ]

pub lowest_free-is : (holds : List Hold) (id : List ℕ) → IsLowestFree holds id (lowest_free holds id)
lowest_free-is holds id = (let is = first_free-is (holds_slot id) (one_slot id) holds in record { free = is.0; lower = is.1 })

pub free_number-is : (holds : List Hold) → IsFreeNumber holds (free_number holds)
free_number-is holds = (let is = first_free-is (λ number hold. hold.holder == number) one_holder holds in record { free = is.0; lower = is.1 })

-- what a holder takes has the number of no other one
takings-apart : (holder other : ℕ) (holds : List Hold) (uses : List CacheUse) → holder ≢ other → is_holder other (new_holds holder holds uses) ≡ false
takings-apart holder other holds [] differ = refl
takings-apart holder other holds (mount ∷ uses) differ = or_from (holder == other) (is_holder other (new_holds holder holds uses)) (ne_eqb holder other differ) (takings-apart holder other holds uses differ)

pub no-uses : (uses : List CacheUse) → (length uses == 0) ≡ true → uses ≡ []
no-uses [] e = refl
no-uses (mount ∷ uses) e = absurd (let h = eqb-true (length (mount ∷ uses)) 0 e in omega (arith, h))

pub takings-below : (holder : ℕ) (holds : List Hold) (uses : List CacheUse) → holder < nobody → is_holder nobody (new_holds holder holds uses) ≡ false
takings-below holder holds uses below = takings-apart holder nobody holds uses (λ same. absurd (omega (arith, below, same)))

-- no two holds clash where holders leave
pub lawful-filter : (q : Hold → Bool) (holds : List Hold) → is_lawful holds ≡ true → is_lawful (filter q holds) ≡ true
lawful-filter q [] e = refl
lawful-filter q (hold ∷ holds) e = by_test (lawful-filter q holds (and_parts (not (list_any (holds_clash hold) holds)) (is_lawful holds) e).1) (q hold) refl
  where
    by_test : is_lawful (filter q holds) ≡ true → (b : Bool) → q hold ≡ b → is_lawful (filter q (hold ∷ holds)) ≡ true
    by_test rest true t = rw t (and_from _ _ (not_from_false _ (any_filter_none (holds_clash hold) q holds (not-true _ (and_parts (not (list_any (holds_clash hold) holds)) (is_lawful holds) e).0))) rest)
    by_test rest false t = rw t rest

-- no hold of a list clashes with one of another
abbrev are_beside : List Hold → List Hold → Bool
are_beside holds [] = true
are_beside holds (hold ∷ more) = not (list_any (λ other. holds_clash other hold) holds) && are_beside holds more

beside_head : (first : Hold) (holds more : List Hold) → are_beside (first ∷ holds) more ≡ true → (list_any (holds_clash first) more ≡ false) × (are_beside holds more ≡ true)
beside_head first holds [] e = (refl, refl)
beside_head first holds (hold ∷ more) e =
    let parts = and_parts (not (list_any (λ other. holds_clash other hold) (first ∷ holds))) (are_beside (first ∷ holds) more) e in
    let here = or_parts (holds_clash first hold) (list_any (λ other. holds_clash other hold) holds) (not-true _ parts.0) in
    let rest = beside_head first holds more parts.1 in
    (or_from _ _ here.0 rest.0, and_from _ _ (not_from_false _ here.1) rest.1)

lawful_append : (holds more : List Hold) → is_lawful holds ≡ true → is_lawful more ≡ true → are_beside holds more ≡ true → is_lawful (holds ++ more) ≡ true
lawful_append [] more e f beside = f
lawful_append (first ∷ holds) more e f beside =
    let parts = and_parts (not (list_any (holds_clash first) holds)) (is_lawful holds) e in
    let heads = beside_head first holds more beside in
    let none : list_any (holds_clash first) (holds ++ more) ≡ false = list_any-append (holds_clash first) holds more ∙ or_from _ _ (not-true _ parts.0) heads.0 in
    and_from _ _ (not_from_false _ none) (lawful_append holds more parts.1 f heads.1)

pub alone_clash : (hold : Access) → accesses_clash hold Alone ≡ is_common hold
alone_clash Together = refl
alone_clash Alone = refl
alone_clash (Slot slot) = refl

together_clash : (hold : Access) → accesses_clash hold Together ≡ is_alone hold
together_clash Together = refl
together_clash Alone = refl
together_clash (Slot slot) = refl

slot_clash : (slot : ℕ) (hold : Access) → accesses_clash hold (Slot slot) ≡ is_slot slot hold
slot_clash slot Together = refl
slot_clash slot Alone = refl
slot_clash slot (Slot other) = refl

-- what may begin clashes with nothing
begins_beside : (holder : ℕ) (holds : List Hold) (id : List ℕ) (sharing : Sharing) → may_begin holds id sharing ≡ true → list_any (λ other. holds_clash other (record { holder = holder; id = id; access = access_for holds id sharing })) holds ≡ false
begins_beside holder holds id Locked e =
    any_same _ (holds_common id) (λ other. ap (λ b. same_id other.id id && b) (alone_clash other.access)) holds ∙ not-true _ e
begins_beside holder holds id Shared e =
    any_same _ (holds_alone id) (λ other. ap (λ b. same_id other.id id && b) (together_clash other.access)) holds ∙ not-true _ e
begins_beside holder holds id Private e =
    any_same _ (holds_slot id (lowest_free holds id)) (λ other. ap (λ b. same_id other.id id && b) (slot_clash (lowest_free holds id) other.access)) holds ∙ (lowest_free-is holds id).free

takings_beside : (holder : ℕ) (holds : List Hold) (uses : List CacheUse) → can_take holds uses ≡ true → are_beside holds (new_holds holder holds uses) ≡ true
takings_beside holder holds [] e = refl
takings_beside holder holds (mount ∷ uses) e =
    let parts = and_parts (may_begin holds mount.id mount.sharing) (can_take holds uses) e in
    and_from _ _ (not_from_false _ (begins_beside holder holds mount.id mount.sharing parts.0)) (takings_beside holder holds uses parts.1)

apart_head : (holder : ℕ) (holds : List Hold) (hold : Hold) (uses : List CacheUse) → list_any (pointwise nat_eq hold.id) (ids_of uses) ≡ false → list_any (holds_clash hold) (new_holds holder holds uses) ≡ false
apart_head holder holds hold [] e = refl
apart_head holder holds hold (mount ∷ uses) e =
    let parts = or_parts (pointwise nat_eq hold.id mount.id) (list_any (pointwise nat_eq hold.id) (ids_of uses)) e in
    let here : holds_clash hold (new_hold holder holds mount) ≡ false = ap (λ b. b && accesses_clash hold.access (access_for holds mount.id mount.sharing)) parts.0 in
    or_from _ _ here (apart_head holder holds hold uses parts.1)

takings_lawful : (holder : ℕ) (holds : List Hold) (uses : List CacheUse) → ids_differ (ids_of uses) ≡ true → is_lawful (new_holds holder holds uses) ≡ true
takings_lawful holder holds [] e = refl
takings_lawful holder holds (mount ∷ uses) e =
    let parts = and_parts (not (list_any (pointwise nat_eq mount.id) (ids_of uses))) (ids_differ (ids_of uses)) e in
    and_from _ _ (not_from_false _ (apart_head holder holds (new_hold holder holds mount) uses (not-true _ parts.0))) (takings_lawful holder holds uses parts.1)

-- no two holds clash where uses begin that may
pub lawful-takes : (holder : ℕ) (holds : List Hold) (uses : List CacheUse) → is_lawful holds ≡ true → can_take holds uses ≡ true → ids_differ (ids_of uses) ≡ true → is_lawful (holds ++ new_holds holder holds uses) ≡ true
lawful-takes holder holds uses e can differ =
    lawful_append holds (new_holds holder holds uses) e (takings_lawful holder holds uses differ) (takings_beside holder holds uses can)

-- where nobody holds anything, everything may be taken
pub can_take-free : (uses : List CacheUse) → can_take [] uses ≡ true
can_take-free [] = refl
can_take-free (mount ∷ uses) = and_from _ _ (begins mount.sharing) (can_take-free uses)
  where
    begins : (sharing : Sharing) → may_begin [] mount.id sharing ≡ true
    begins Locked = refl
    begins Shared = refl
    begins Private = refl

-- whose holds are whose
filter_all : {X : Type 0} (q : X → Bool) (xs : List X) → list_any (λ x. not (q x)) xs ≡ false → filter q xs ≡ xs
filter_all q [] e = refl
filter_all q (x ∷ xs) e = by_test (filter_all q xs) (q x) refl
  where
    by_test : (list_any (λ y. not (q y)) xs ≡ false → filter q xs ≡ xs) → (b : Bool) → q x ≡ b → filter q (x ∷ xs) ≡ x ∷ xs
    by_test rest true t = (let f : list_any (λ y. not (q y)) xs ≡ false = rw t at e in rw t (ap (λ ys. x ∷ ys) (rest f)))
    by_test rest false t = (let f : true ≡ false = rw t at e in cc)

filter_none : {X : Type 0} (q : X → Bool) (xs : List X) → list_any q xs ≡ false → filter q xs ≡ []
filter_none q [] e = refl
filter_none q (x ∷ xs) e =
    let parts = or_parts (q x) (list_any q xs) e in
    rw (parts.0, filter_none q xs parts.1) refl

of_holder_takings : (holder other : ℕ) (holds : List Hold) (uses : List CacheUse) → of_holder other (new_holds holder holds uses) ≡ cond (holder == other) (new_holds holder holds uses) []
of_holder_takings holder other holds [] = elim (holder == other) as (λ b. [] ≡ cond {A = List Hold} b [] []) [ true ↦ refl | false ↦ refl ]
of_holder_takings holder other holds (mount ∷ uses) = by_test (of_holder_takings holder other holds uses) (holder == other) refl
  where
    by_test : of_holder other (new_holds holder holds uses) ≡ cond (holder == other) (new_holds holder holds uses) [] → (b : Bool) → (holder == other) ≡ b → of_holder other (new_holds holder holds (mount ∷ uses)) ≡ cond (holder == other) (new_holds holder holds (mount ∷ uses)) []
    by_test rest true t = rw t (ap (λ ts. new_hold holder holds mount ∷ ts) (rest ∙ rw t refl))
    by_test rest false t = rw t (rest ∙ rw t refl)

-- a holder that comes holds what it took, and the others hold what they held
pub of_holder-takes : (holder other : ℕ) (holds : List Hold) (uses : List CacheUse) → is_holder holder holds ≡ false → of_holder other (holds ++ new_holds holder holds uses) ≡ cond (holder == other) (new_holds holder holds uses) (of_holder other holds)
of_holder-takes holder other holds uses free = filter-append (λ hold. hold.holder == other) holds (new_holds holder holds uses) ∙ by_test (holder == other) refl
  where
    by_test : (b : Bool) → (holder == other) ≡ b → of_holder other holds ++ of_holder other (new_holds holder holds uses) ≡ cond (holder == other) (new_holds holder holds uses) (of_holder other holds)
    by_test true t =
        let none : of_holder other holds ≡ [] = rw (← eqb-true holder other t) (filter_none (λ hold. hold.holder == holder) holds free) in
        rw (none, of_holder_takings holder other holds uses) (rw t refl)
    by_test false t = rw (of_holder_takings holder other holds uses) (rw t (append-nil (of_holder other holds)))

-- a holder that goes holds nothing, and the others hold what they held
pub of_holder-without : (holder other : ℕ) (holds : List Hold) → of_holder other (without_holder holder holds) ≡ cond (holder == other) [] (of_holder other holds)
of_holder-without holder other [] = elim (holder == other) as (λ b. [] ≡ cond {A = List Hold} b [] []) [ true ↦ refl | false ↦ refl ]
of_holder-without holder other (hold ∷ holds) = by_test (of_holder-without holder other holds) (hold.holder == holder) refl (hold.holder == other) refl (holder == other) refl
  where
    by_test : of_holder other (without_holder holder holds) ≡ cond (holder == other) [] (of_holder other holds) → (b : Bool) → (hold.holder == holder) ≡ b → (d : Bool) → (hold.holder == other) ≡ d → (c : Bool) → (holder == other) ≡ c → of_holder other (without_holder holder (hold ∷ holds)) ≡ cond (holder == other) [] (of_holder other (hold ∷ holds))
    by_test rest true t true s true g = rw (t, g) (rest ∙ rw g refl)
    by_test rest true t true s false g = absurd (eqb-false holder other g (sym (eqb-true hold.holder holder t) ∙ eqb-true hold.holder other s))
    by_test rest true t false s true g = rw (t, g) (rest ∙ rw g refl)
    by_test rest true t false s false g = rw (t, s, g) (rest ∙ rw g refl)
    by_test rest false t true s true g = absurd (eqb-false hold.holder holder t (eqb-true hold.holder other s ∙ sym (eqb-true holder other g)))
    by_test rest false t true s false g = rw (t, s, g) (ap (λ ts. hold ∷ ts) (rest ∙ rw g refl))
    by_test rest false t false s true g = rw (t, s, g) (rest ∙ rw g refl)
    by_test rest false t false s false g = rw (t, s, g) (rest ∙ rw g refl)

pub length-new_holds : (holder : ℕ) (holds : List Hold) (uses : List CacheUse) → length (new_holds holder holds uses) ≡ length uses
length-new_holds holder holds [] = refl
length-new_holds holder holds (mount ∷ uses) = ap suc (length-new_holds holder holds uses)

-- the first number that isn't held, as a search finds it
pub first_free-at : (held : ℕ → Bool) (slot more at : ℕ) → slot ≤ at → at ≤ slot + more → ((k : ℕ) → slot ≤ k → k < at → held k ≡ true) → (held at ≡ false) ⊎ (at ≡ slot + more) → first_free held slot more ≡ at
first_free-at held slot zero at l m low ends = omega (arith, l, m)
first_free-at held slot (suc more) at l m low ends = by_test (held slot) refl (first_free-at held (slot + 1) more at) (cases_eq slot at) ends
  where
    by_test : (b : Bool) → held slot ≡ b → (slot + 1 ≤ at → at ≤ (slot + 1) + more → ((k : ℕ) → slot + 1 ≤ k → k < at → held k ≡ true) → (held at ≡ false) ⊎ (at ≡ (slot + 1) + more) → first_free held (slot + 1) more ≡ at) → (slot ≡ at) ⊎ (slot ≡ at → ⊥) → (held at ≡ false) ⊎ (at ≡ slot + suc more) → first_free held slot (suc more) ≡ at
    by_test true t rest (inl same) (inl free) = absurd (both_ways (held at) free (rw (← same) t))
    by_test true t rest (inl same) (inr past) = absurd (omega (arith, same, past))
    by_test true t rest (inr differ) (inl free) = rw t (rest (omega (arith, l, differ)) (omega (arith, m)) (λ k a b. low k (omega (arith, a)) b) (inl free))
    by_test true t rest (inr differ) (inr past) = rw t (rest (omega (arith, l, differ)) (omega (arith, m)) (λ k a b. low k (omega (arith, a)) b) (inr (omega (arith, past))))
    by_test false t rest (inl same) o = rw t same
    by_test false t rest (inr differ) o = absurd (both_ways (held slot) t (low slot (omega arith) (omega (arith, l, differ))))

-- a list whose every element passes has a filtered list whose every element passes
pub all_filter : {X : Type 0} (p q : X → Bool) (xs : List X) → list_all p xs ≡ true → list_all p (filter q xs) ≡ true
all_filter p q [] e = refl
all_filter p q (x ∷ xs) e = by_test (all_filter p q xs (and_parts (p x) (list_all p xs) e).1) (q x) refl
  where
    by_test : list_all p (filter q xs) ≡ true → (b : Bool) → q x ≡ b → list_all p (filter q (x ∷ xs)) ≡ true
    by_test rest true t = rw t (and_from (p x) (list_all p (filter q xs)) (and_parts (p x) (list_all p xs) e).0 rest)
    by_test rest false t = rw t rest
