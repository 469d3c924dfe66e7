-- Adding keeps the index beside the steps of a generation.
use Rattle.std.specs.Prelude.{◌≡◌, ℕ, ◌⊎◌, Some, List, [], ◌∷◌, ◌++◌, if◌then◌else◌, length, slice_get}
use Rattle.std.specs.List.{Contains}
use Rattle.std.proofs.Common.{ap, sym, ◌∙◌, subst, inl, inr, eq-eqb, refl, zero, suc}
use Rattle.std.proofs.lemmas.List.Elements.{Contains-append_left, Contains-push}
use Rattle.memo.specs.declared.index.Index.{Index}
use Rattle.memo.specs.declared.step.Step.{Step}
use Rattle.memo.specs.Key.{key_of}
use Rattle.memo.specs.PrivateGeneration.{IsIndexed}
use Rattle.memo.specs.PrivateIndex.{under, Enters, SameUnder}

-- an element of a list with one more is an old one or the last
pub last_cases : {X : Type 0} (xs : List X) (x : X) (k : ℕ) (y : X) → slice_get (xs ++ x ∷ []) k ≡ Some y → (slice_get xs k ≡ Some y) ⊎ ((k ≡ length xs) × (y ≡ x))
last_cases [] x zero y e = inr (refl, cc)
last_cases [] x (suc k) y e = cc
last_cases (z ∷ zs) x zero y e = inl e
last_cases (z ∷ zs) x (suc k) y e = elim (last_cases zs x k y e) [ inl h ↦ inl h | inr h ↦ inr (ap suc h.0, h.1) ]

-- nothing was entered
pub keeps_indexed : (vs : List Step) (old new : Index) → IsIndexed vs old → SameUnder old new → IsIndexed vs new
keeps_indexed vs old new is keeps = record { entered = λ k v e. subst (λ ns. Contains ns k) (sym (keeps (key_of v.op))) (is.entered k v e) }

-- what was under a key is still there
stays : (old new : Index) (key number other k : ℕ) → Enters old new key number → Contains (under old other) k → Contains (under new other) k
stays old new key number other k enters h = subst (λ ns. Contains ns k) (sym (enters other)) (Contains-append_left (under old other) _ k h)

-- what was entered is there
stands : (old new : Index) (key number : ℕ) → Enters old new key number → Contains (under new key) number
stands old new key number enters =
    let here : under new key ≡ under old key ++ number ∷ [] = enters key ∙ ap (λ b. under old key ++ (if b then number ∷ [] else [])) (eq-eqb key key refl) in
    subst (λ ns. Contains ns number) (sym here) (Contains-push (under old key) number)

append_cases : (vs : List Step) (old new : Index) (v : Step) (k : ℕ) (w : Step) → IsIndexed vs old → Enters old new (key_of v.op) (length vs) → (slice_get vs k ≡ Some w) ⊎ ((k ≡ length vs) × (w ≡ v)) → Contains (under new (key_of w.op)) k
append_cases vs old new v k w is enters (inl a) = stays old new (key_of v.op) (length vs) (key_of w.op) k enters (is.entered k w a)
append_cases vs old new v k w is enters (inr a) =
    subst (λ n. Contains (under new (key_of w.op)) n) (sym a.0) (subst (λ (u : Step). Contains (under new (key_of u.op)) (length vs)) (sym a.1) (stands old new (key_of v.op) (length vs) enters))

-- a new step at the end, entered under its key
pub append_indexed : (vs : List Step) (old new : Index) (v : Step) → IsIndexed vs old → Enters old new (key_of v.op) (length vs) → IsIndexed (vs ++ v ∷ []) new
append_indexed vs old new v is enters = record { entered = λ k w e. append_cases vs old new v k w is enters (last_cases vs v k w e) }
