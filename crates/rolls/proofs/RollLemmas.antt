-- What a roll has of a worker after one note more.
use Rattle.std.proofs.Common.{◌≡◌, ◌≢◌, ℕ, ◌==◌, List, [], ◌∷◌, ◌++◌, Bool, true, false, cond, refl, ap}
use Rattle.std.proofs.lemmas.Bool.{eq-eqb, ne_eqb}
use Rattle.rolls.specs.declared.note.Told.{Told}
use Rattle.rolls.specs.Rolls.{of_worker}

grown : (b : Bool) (x : Told) (xs ys ts : List Told) → xs ≡ ys ++ ts → cond b (x ∷ xs) xs ≡ cond b (x ∷ ys) ys ++ ts
grown true x xs ys ts e = ap (λ l. x ∷ l) e
grown false x xs ys ts e = e

pub of_worker-here : (roll : List (ℕ × Told)) (worker : ℕ) (note : Told) → of_worker worker (roll ++ (worker, note) ∷ []) ≡ of_worker worker roll ++ note ∷ []
of_worker-here [] worker note = ap (λ b. cond b (note ∷ []) []) (eq-eqb worker worker refl)
of_worker-here (x ∷ roll) worker note = grown (x.0 == worker) x.1 _ (of_worker worker roll) (note ∷ []) (of_worker-here roll worker note)

pub of_worker-other : (roll : List (ℕ × Told)) (worker other : ℕ) (note : Told) → worker ≢ other → of_worker other (roll ++ (worker, note) ∷ []) ≡ of_worker other roll
of_worker-other [] worker other note n = ap (λ b. cond b (note ∷ []) []) (ne_eqb worker other n)
of_worker-other (x ∷ roll) worker other note n = ap (λ l. cond (x.0 == other) (x.1 ∷ l) l) (of_worker-other roll worker other note n)
