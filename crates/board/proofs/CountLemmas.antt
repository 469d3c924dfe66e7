-- Counting inputs and users: one more user noted, one count lowered.
use Rattle.std.proofs.Common.{◌≡◌, ◌≢◌, ℕ, ◌+◌, ◌-◌, ◌<◌, ◌≤◌, ◌==◌, Bool, true, false, not, ◌&&◌, ◌||◌, cond, ◌⊎◌, inl, inr, List, [], ◌∷◌, ◌++◌, length, drop, Some, refl, sym, ap, ◌∙◌, subst, arith}
use Rattle.std.specs.Prelude.{slice_get, slice_index, slice_set}
use Rattle.std.specs.Option.{option_map_or}
use Rattle.std.proofs.lemmas.Bool.{cases_lt, cases_eq, eq-eqb, ne_eqb, or_right, and_from}
use Rattle.std.proofs.lemmas.List.{length-set, get_or-set_same, get_or-set_other, get_or_past, drop_more, drop_all}
use Rattle.std.proofs.lemmas.Option.{slice_get_past}
use Rattle.llb.specs.declared.vertex.Vertex.{Vertex}
use Rattle.board.specs.PrivateNumbers.{has}
use Rattle.board.specs.PrivateFrontier.{times, users_at, inputs_at, AreUsers, IsNoted, IsLowered, IsLowering, CanLower}

-- a number's place in a list counts for it
times_own : (numbers : List ℕ) (place number : ℕ) → place < length numbers → slice_index numbers place ≡ number → times number (drop place numbers) ≡ 1 + times number (drop (place + 1) numbers)
times_own numbers place number l e =
    let test : (slice_index numbers place == number) ≡ true = eq-eqb (slice_index numbers place) number e in
    ap (times number) (drop_more numbers place 0 l) ∙ ap (λ b. cond b 1 0 + times number (drop (place + 1) numbers)) test

-- and for no other
times_other : (numbers : List ℕ) (place number other : ℕ) → place < length numbers → slice_index numbers place ≡ number → other ≢ number → times other (drop place numbers) ≡ times other (drop (place + 1) numbers)
times_other numbers place number other l e differ =
    let test : (slice_index numbers place == other) ≡ false = ne_eqb (slice_index numbers place) other (λ f. differ (sym f ∙ e)) in
    let same : 0 + times other (drop (place + 1) numbers) ≡ times other (drop (place + 1) numbers) = omega arith in
    ap (times other) (drop_more numbers place 0 l) ∙ (ap (λ b. cond b 1 0 + times other (drop (place + 1) numbers)) test ∙ same)

-- a user that is to be lowered waits for some input
pub lower-bound : (users waiting : List ℕ) (place user : ℕ) → CanLower (drop place users) waiting → place < length users → slice_index users place ≡ user → (user < length waiting) × (0 < slice_index waiting user)
lower-bound users waiting place user can l e =
    let own = times_own users place user l e in
    let most = can user in
    let some : 0 < slice_index waiting user = omega (arith, own, most) in (
      elim (cases_lt user (length waiting)) [
        | inl within ↦ within
        | inr past ↦ (let none : slice_index waiting user ≡ 0 = get_or_past waiting user 0 past in absurd (omega (arith, none, some)))
      ],
      some,
    )

pub lower-begun : (users waiting : List ℕ) (available : List Bool) → CanLower users waiting → IsLowering users 0 waiting waiting available available
lower-begun users waiting available can = record {
  rest = can;
  fewer = λ user. omega arith;
  waiting = λ user. refl;
  available = λ user. elim (slice_index waiting user == 0) as (λ b. has available user ≡ (has available user || (not b && b))) [
    | true ↦ sym (or_none (has available user))
    | false ↦ sym (or_none (has available user))
  ];
  available_long = refl;
}
  where
    or_none : (b : Bool) → (b || false) ≡ b
    or_none true = refl
    or_none false = refl

-- one count was lowered
pub lower-step : (users : List ℕ) (place user : ℕ) (before waiting : List ℕ) (available_before available available_after : List Bool) → IsLowering users place before waiting available_before available → place < length users → slice_index users place ≡ user → user < length available → ((slice_index (slice_set waiting user (slice_index waiting user - 1)) user ≡ 0) × (available_after ≡ slice_set available user true)) ⊎ ((slice_index (slice_set waiting user (slice_index waiting user - 1)) user ≢ 0) × (available_after ≡ available)) → IsLowering users (place + 1) before (slice_set waiting user (slice_index waiting user - 1)) available_before available_after
lower-step users place user before waiting available_before available available_after is l e within opened = record {
  rest = λ other. rest other (cases_eq other user);
  fewer = λ other. fewer other (cases_eq other user);
  waiting = λ other. counted other (cases_eq other user);
  available = λ other. opens other (cases_eq other user);
  available_long = long opened;
}
  where
    after : List ℕ
    after = slice_set waiting user (slice_index waiting user - 1)

    bound : (user < length waiting) × (0 < slice_index waiting user)
    bound = lower-bound users waiting place user is.rest l e

    here : slice_index after user ≡ slice_index waiting user - 1
    here = get_or-set_same waiting user (slice_index waiting user - 1) 0 bound.0

    there : (other : ℕ) → other ≢ user → slice_index after other ≡ slice_index waiting other
    there other differ = get_or-set_other waiting user other (slice_index waiting user - 1) 0 differ

    rest : (other : ℕ) → (other ≡ user) ⊎ (other ≡ user → ⊥) → times other (drop (place + 1) users) ≤ slice_index after other
    rest other (inl same) =
        let own = times_own users place user l e in
        let most = is.rest user in
        let now = here in
        subst (λ u. times u (drop (place + 1) users) ≤ slice_index after u) (sym same) (omega (arith, own, most, now))
    rest other (inr differ) =
        let same = times_other users place user other l e differ in
        let most = is.rest other in
        let now = there other differ in
        omega (arith, same, most, now)

    fewer : (other : ℕ) → (other ≡ user) ⊎ (other ≡ user → ⊥) → slice_index after other ≤ slice_index before other
    fewer other (inl same) =
        let most = is.fewer user in
        let now = here in
        subst (λ u. slice_index after u ≤ slice_index before u) (sym same) (omega (arith, most, now))
    fewer other (inr differ) =
        let most = is.fewer other in
        let now = there other differ in
        omega (arith, most, now)

    counted : (other : ℕ) → (other ≡ user) ⊎ (other ≡ user → ⊥) → slice_index after other + times other users ≡ slice_index before other + times other (drop (place + 1) users)
    counted other (inl same) =
        let own = times_own users place user l e in
        let sum = is.waiting user in
        let now = here in
        let some = bound.1 in
        subst (λ u. slice_index after u + times u users ≡ slice_index before u + times u (drop (place + 1) users)) (sym same) (omega (arith, own, sum, now, some))
    counted other (inr differ) =
        let same = times_other users place user other l e differ in
        let sum = is.waiting other in
        let now = there other differ in
        omega (arith, same, sum, now)

    long : ((slice_index after user ≡ 0) × (available_after ≡ slice_set available user true)) ⊎ ((slice_index after user ≢ 0) × (available_after ≡ available)) → length available_after ≡ length available_before
    long (inl zero) = ap length zero.1 ∙ (length-set available user true ∙ is.available_long)
    long (inr more) = ap length more.1 ∙ is.available_long

    some_before : (slice_index before user == 0) ≡ false
    some_before =
        let most = is.fewer user in
        let some = bound.1 in
        let ne : slice_index before user ≢ 0 = omega (arith, most, some) in
        ne_eqb (slice_index before user) 0 ne

    some_now : (slice_index waiting user == 0) ≡ false
    some_now =
        let some = bound.1 in
        let ne : slice_index waiting user ≢ 0 = omega (arith, some) in
        ne_eqb (slice_index waiting user) 0 ne

    own_opens : ((slice_index after user ≡ 0) × (available_after ≡ slice_set available user true)) ⊎ ((slice_index after user ≢ 0) × (available_after ≡ available)) → has available_after user ≡ (has available_before user || (not (slice_index before user == 0) && (slice_index after user == 0)))
    own_opens (inl zero) =
        let set : has available_after user ≡ true = ap (λ xs. has xs user) zero.1 ∙ get_or-set_same available user true false within in
        let test : (not (slice_index before user == 0) && (slice_index after user == 0)) ≡ true = and_from (not (slice_index before user == 0)) (slice_index after user == 0) (ap not some_before) (eq-eqb (slice_index after user) 0 zero.0) in
        set ∙ sym (or_right (has available_before user) (not (slice_index before user == 0) && (slice_index after user == 0)) test)
    own_opens (inr more) =
        let test : (slice_index after user == 0) ≡ false = ne_eqb (slice_index after user) 0 more.0 in
        ap (λ xs. has xs user) more.1 ∙ (is.available user ∙ ap (λ b. has available_before user || (not (slice_index before user == 0) && b)) (some_now ∙ sym test))

    opens : (other : ℕ) → (other ≡ user) ⊎ (other ≡ user → ⊥) → has available_after other ≡ (has available_before other || (not (slice_index before other == 0) && (slice_index after other == 0)))
    opens other (inl same) = subst (λ u. has available_after u ≡ (has available_before u || (not (slice_index before u == 0) && (slice_index after u == 0)))) (sym same) (own_opens opened)
    opens other (inr differ) = kept opened ∙ (is.available other ∙ ap (λ n. has available_before other || (not (slice_index before other == 0) && (n == 0))) (sym (there other differ)))
      where
        kept : ((slice_index after user ≡ 0) × (available_after ≡ slice_set available user true)) ⊎ ((slice_index after user ≢ 0) × (available_after ≡ available)) → has available_after other ≡ has available other
        kept (inl zero) = ap (λ xs. has xs other) zero.1 ∙ get_or-set_other available user other true false differ
        kept (inr more) = ap (λ xs. has xs other) more.1

-- all counts were lowered
pub lower-all : (users : List ℕ) (place : ℕ) (before waiting : List ℕ) (available_before available : List Bool) → IsLowering users place before waiting available_before available → length users ≤ place → length waiting ≡ length before → IsLowered users before waiting available_before available
lower-all users place before waiting available_before available is past long = record {
  waiting = λ user. is.waiting user ∙ (ap (λ xs. slice_index before user + times user xs) (drop_all place users past) ∙ omega arith);
  waiting_long = long;
  available = is.available;
  available_long = is.available_long;
}

times-push : (number : ℕ) (numbers : List ℕ) (last : ℕ) → times number (numbers ++ last ∷ []) ≡ times number numbers + cond (last == number) 1 0
times-push number [] last = omega arith
times-push number (first ∷ numbers) last =
    let rest = times-push number numbers last in
    omega (arith, rest)

-- a user was noted for one input more
pub note-own : (users : List (List ℕ)) (inputs : List ℕ) (place user at : ℕ) (now : List ℕ) → place < length inputs → slice_index inputs place ≡ at → at < length users → now ≡ users_at users at ++ user ∷ [] → (input : ℕ) → times user (users_at (slice_set users at now) input) + times input (drop (place + 1) inputs) ≡ times user (users_at users input) + times input (drop place inputs)
note-own users inputs place user at now l e within is input = by_place (cases_eq input at)
  where
    by_place : (input ≡ at) ⊎ (input ≡ at → ⊥) → times user (users_at (slice_set users at now) input) + times input (drop (place + 1) inputs) ≡ times user (users_at users input) + times input (drop place inputs)
    by_place (inl same) =
        let own = times_own inputs place at l e in
        let here : times user (users_at (slice_set users at now) at) ≡ times user (users_at users at) + 1 = ap (times user) (get_or-set_same users at now [] within ∙ is) ∙ (times-push user (users_at users at) user ∙ ap (λ b. times user (users_at users at) + cond b 1 0) (eq-eqb user user refl)) in
        subst (λ i. times user (users_at (slice_set users at now) i) + times i (drop (place + 1) inputs) ≡ times user (users_at users i) + times i (drop place inputs)) (sym same) (omega (arith, own, here))
    by_place (inr differ) =
        let other = times_other inputs place at input l e differ in
        let here : times user (users_at (slice_set users at now) input) ≡ times user (users_at users input) = ap (times user) (get_or-set_other users at input now [] differ) in
        omega (arith, other, here)

-- and no other user was
pub note-others : (users : List (List ℕ)) (user at : ℕ) (now : List ℕ) → at < length users → now ≡ users_at users at ++ user ∷ [] → (input other : ℕ) → other ≢ user → times other (users_at (slice_set users at now) input) ≡ times other (users_at users input)
note-others users user at now within is input other differ = by_place (cases_eq input at)
  where
    by_place : (input ≡ at) ⊎ (input ≡ at → ⊥) → times other (users_at (slice_set users at now) input) ≡ times other (users_at users input)
    by_place (inl same) =
        let none : times other (users_at users at) + 0 ≡ times other (users_at users at) = omega arith in
        let here : times other (users_at (slice_set users at now) at) ≡ times other (users_at users at) = ap (times other) (get_or-set_same users at now [] within ∙ is) ∙ (times-push other (users_at users at) user ∙ (ap (λ b. times other (users_at users at) + cond b 1 0) (ne_eqb user other (λ f. differ (sym f))) ∙ none)) in
        subst (λ i. times other (users_at (slice_set users at now) i) ≡ times other (users_at users i)) (sym same) here
    by_place (inr apart) = ap (times other) (get_or-set_other users at input now [] apart)

inputs_here : (vertices : List Vertex) (place : ℕ) (v : Vertex) → slice_get vertices place ≡ Some v → inputs_at vertices place ≡ v.inputs
inputs_here vertices place v there = ap (λ o. option_map_or (λ (w : Vertex). w.inputs) o []) there

-- the users of one vertex more were noted
pub users-step : (vertices : List Vertex) (old new : List (List ℕ)) (place : ℕ) (v : Vertex) → slice_get vertices place ≡ Some v → ((input user : ℕ) → user < place → times user (users_at old input) ≡ times input (inputs_at vertices user)) → ((input user : ℕ) → place ≤ user → times user (users_at old input) ≡ 0) → IsNoted place v.inputs old new → (input user : ℕ) → user < place + 1 → times user (users_at new input) ≡ times input (inputs_at vertices user)
users-step vertices old new place v there before after noted input user l = by_user (cases_eq user place)
  where
    by_user : (user ≡ place) ⊎ (user ≡ place → ⊥) → times user (users_at new input) ≡ times input (inputs_at vertices user)
    by_user (inl same) =
        let own = noted.own input in
        let none = after input place (omega arith) in
        let inputs : times input (inputs_at vertices place) ≡ times input v.inputs = ap (times input) (inputs_here vertices place v there) in
        subst (λ u. times u (users_at new input) ≡ times input (inputs_at vertices u)) (sym same) (omega (arith, own, none, inputs))
    by_user (inr differ) = noted.others input user differ ∙ before input user (omega (arith, l, differ))

-- the users of all vertices were noted
pub users-all : (vertices : List Vertex) (users : List (List ℕ)) (place : ℕ) → length users ≡ length vertices → length vertices ≤ place → ((input user : ℕ) → user < place → times user (users_at users input) ≡ times input (inputs_at vertices user)) → ((input user : ℕ) → place ≤ user → times user (users_at users input) ≡ 0) → AreUsers vertices users
users-all vertices users place long past before after = record { long = long; used = λ input user. by_user input user (cases_lt user place) }
  where
    by_user : (input user : ℕ) → (user < place) ⊎ (place ≤ user) → times user (users_at users input) ≡ times input (inputs_at vertices user)
    by_user input user (inl l) = before input user l
    by_user input user (inr out) =
        let none : inputs_at vertices user ≡ [] = ap (λ o. option_map_or (λ (w : Vertex). w.inputs) o []) (slice_get_past vertices user (omega (arith, past, out))) in
        after input user out ∙ ap (times input) (sym none)
