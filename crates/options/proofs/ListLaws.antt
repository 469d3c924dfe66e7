-- Laws of lists whose values may be missing: what one more value of them gives.
use Rattle.std.specs.Prelude.{◌≡◌, List, [], ◌∷◌, ◌++◌, Option, Some, None, option_map, refl}
use Rattle.std.proofs.Common.{sym, ap, append_assoc}
use Rattle.options.specs.Lists.{all_some}

-- a list before another, if there is another
abbrev pub behind : {X : Type 0} → List X → Option (List X) → Option (List X)
behind xs o = option_map (λ ys. xs ++ ys) o

pub behind_none : {X : Type 0} (xs : List X) (o : Option X) (os : List (Option X)) → o ≡ None → behind xs (all_some (o ∷ os)) ≡ None
behind_none xs o os h = rw h refl

behind_more : {X : Type 0} (xs : List X) (x : X) (o : Option (List X)) → behind xs (option_map (λ ys. x ∷ ys) o) ≡ behind (xs ++ x ∷ []) o
behind_more xs x None = refl
behind_more xs x (Some ys) = ap (λ zs. Some zs) (sym (append_assoc xs (x ∷ []) ys))

pub behind_some : {X : Type 0} (xs : List X) (x : X) (o : Option X) (os : List (Option X)) → o ≡ Some x → behind xs (all_some (o ∷ os)) ≡ behind (xs ++ x ∷ []) (all_some os)
behind_some xs x o os h = rw h (behind_more xs x (all_some os))
