-- The test of a cut holds exactly where there is one.
use Rattle.std.proofs.Common.{◌≡◌, ◌↔◌, ◌||◌, ℕ, Bool, IsTrue, true, false, cond, List, [], ◌∷◌, ◌⊎◌, drop, sym, refl, subst, inl, inr, true≢false, zero, suc}
use Rattle.std.specs.List.{list_any}
use Rattle.std.proofs.lemmas.Bool.{and_parts, and_from}
use Rattle.std.specs.Str.{chars, is_utf8}
use Rattle.std.proofs.lemmas.Str.{IsUtf8-from_is_utf8, is_utf8-from_IsUtf8}
use Rattle.globs.specs.declared.part.Part.{Part}
use Rattle.globs.specs.Component.{takes_any, holds, RelatesToName, relates_to_name}
use Rattle.globs.specs.Cut.{CanBeCut, can_be_cut, tails, begins}
use Rattle.globs.proofs.Cuts.{run-tail, run-rest, one-make, one-first}

or-cases : (a b : Bool) → (a || b) ≡ true → (a ≡ true) ⊎ (b ≡ true)
or-cases true b h = inl refl
or-cases false b h = inr h

or-first : (a b : Bool) → a ≡ true → (a || b) ≡ true
or-first true b h = refl
or-first false b h = absurd (true≢false (sym h))

or-second : (a b : Bool) → b ≡ true → (a || b) ≡ true
or-second true b h = refl
or-second false b h = h

pub same-bools : (a b : Bool) → (a ≡ true → b ≡ true) → (b ≡ true → a ≡ true) → a ≡ b
same-bools true b to from = sym (to refl)
same-bools false true to from = from refl
same-bools false false to from = refl

module _ {T : Type 0} (f : List T → Bool) where
  some-tail : (items : List T) → list_any f (tails items) ≡ true → (k : ℕ) × (f (drop k items) ≡ true)
  some-tail [] h = elim (or-cases (f []) false h) [ inl here ↦ (0, here) | inr never ↦ absurd (true≢false (sym never)) ]
  some-tail (item ∷ items) h =
      elim (or-cases (f (item ∷ items)) (list_any f (tails items)) h) [ inl here ↦ (0, here) | inr later ↦ (let w = some-tail items later in (suc w.0, w.1)) ]

  tail-there : (items : List T) (k : ℕ) → f (drop k items) ≡ true → list_any f (tails items) ≡ true
  tail-there [] zero h = or-first (f []) false h
  tail-there [] (suc k) h = or-first (f []) false h
  tail-there (item ∷ items) zero h = or-first (f (item ∷ items)) (list_any f (tails items)) h
  tail-there (item ∷ items) (suc k) h = or-second (f (item ∷ items)) (list_any f (tails items)) (tail-there items k h)

module _ {P T : Type 0} (any_run : P → Bool) (fits : P → T → Bool) where
  abbrev Holds : P → T → Type 0
  Holds part item = fits part item ≡ true

  abbrev rest_test : Bool → P → List P → List T → Bool
  rest_test any part parts items =
      cond any (list_any (λ tail. can_be_cut any_run fits parts tail) (tails items)) (begins (λ item. fits part item) (λ rest. can_be_cut any_run fits parts rest) items)

  to-part : (part : P) (parts : List P) (items : List T) → ((xs : List T) → can_be_cut any_run fits parts xs ≡ true → CanBeCut any_run Holds parts xs)
      → (any : Bool) → any_run part ≡ any → rest_test any part parts items ≡ true → CanBeCut any_run Holds (part ∷ parts) items
  to-part part parts items more true is h =
      let w = some-tail (λ tail. can_be_cut any_run fits parts tail) items h in run-tail any_run Holds part parts items w.0 is (more (drop w.0 items) w.1)
  to-part part parts [] more false is h = absurd (true≢false (sym h))
  to-part part parts (x ∷ xs) more false is h =
      let both = and_parts (fits part x) (can_be_cut any_run fits parts xs) h in one-make any_run Holds part parts x xs is both.0 (more xs both.1)

  from-part : (part : P) (parts : List P) (items : List T) → ((xs : List T) → CanBeCut any_run Holds parts xs → can_be_cut any_run fits parts xs ≡ true)
      → (any : Bool) → any_run part ≡ any → CanBeCut any_run Holds (part ∷ parts) items → rest_test any part parts items ≡ true
  from-part part parts items more true is r =
      let w = run-rest any_run Holds part parts items r in tail-there (λ tail. can_be_cut any_run fits parts tail) items w.0 (more (drop w.0 items) w.1)
  from-part part parts items more false is r =
      let w = one-first any_run Holds part parts items is r in
      subst (λ (l : List T). begins (λ item. fits part item) (λ rest. can_be_cut any_run fits parts rest) l ≡ true) (sym w.1.1.0)
      (and_from (fits part w.0) (can_be_cut any_run fits parts w.1.0) w.1.1.1.0 (more w.1.0 w.1.1.1.1))

  pub cut-to : (parts : List P) (items : List T) → can_be_cut any_run fits parts items ≡ true → CanBeCut any_run Holds parts items
  cut-to [] [] h = refl
  cut-to [] (x ∷ xs) h = absurd (true≢false (sym h))
  cut-to (part ∷ parts) items h = to-part part parts items (λ xs. cut-to parts xs) (any_run part) refl h

  nil-from : (items : List T) → items ≡ [] → can_be_cut any_run fits [] items ≡ true
  nil-from items e = subst (λ (l : List T). can_be_cut any_run fits [] l ≡ true) (sym e) refl

  pub cut-from : (parts : List P) (items : List T) → CanBeCut any_run Holds parts items → can_be_cut any_run fits parts items ≡ true
  cut-from [] items r = nil-from items r
  cut-from (part ∷ parts) items r = from-part part parts items (λ xs. cut-from parts xs) (any_run part) refl r

-- of a component's pattern and a name
pub name-to : (parts : List Part) (name : List ℕ) → relates_to_name parts name ≡ true → RelatesToName parts name
name-to parts name h =
    let both = and_parts (is_utf8 name) (can_be_cut takes_any holds parts (chars name)) h in
    (IsUtf8-from_is_utf8 name both.0, cut-to takes_any holds parts (chars name) both.1)

pub name-from : (parts : List Part) (name : List ℕ) → RelatesToName parts name → relates_to_name parts name ≡ true
name-from parts name r =
    and_from (is_utf8 name) (can_be_cut takes_any holds parts (chars name)) (is_utf8-from_IsUtf8 name r.0) (cut-from takes_any holds parts (chars name) r.1)

pub matched : (b : Bool) (parts : List Part) (name : List ℕ) → IsTrue b ↔ RelatesToName parts name → b ≡ relates_to_name parts name
matched b parts name both =
    same-bools b (relates_to_name parts name) (λ h. name-from parts name (both.0 h)) (λ h. both.1 (name-to parts name h))
