-- Targets that are compared component by component: they clash where they are the same as far as both go.
use Rattle.std.specs.Prelude.{◌≡◌, ◌&&◌, ◌||◌, ℕ, Bool, true, false, List, [], ◌∷◌, length, take, nat_eq, refl}
use Rattle.std.specs.List.{list_all, zip}
use Rattle.std.specs.Cmp.Lexicographic.{pointwise}
use Rattle.std.proofs.Common.{ap, ◌∙◌}
use Rattle.std.proofs.lemmas.Cmp.{nat_list_eq_equiv}
use Rattle.runs.specs.Run.{targets_clash}

-- two components are the same
abbrev pub are_same : List ℕ × List ℕ → Bool
are_same pair = pointwise nat_eq pair.0 pair.1

first_alike : (b p q : Bool) → (b && (p || q)) ≡ ((b && p) || (b && q))
first_alike true p q = refl
first_alike false p q = refl

pub clash_is : (these those : List (List ℕ)) → list_all are_same (zip these those) ≡ targets_clash these those
clash_is [] [] = refl
clash_is [] (that ∷ those) = refl
clash_is (this ∷ these) [] = refl
clash_is (this ∷ these) (that ∷ those) =
    ap (λ b. pointwise nat_eq this that && b) (clash_is these those)
    ∙ first_alike (pointwise nat_eq this that) _ _
    ∙ ap (λ b. (b && pointwise (pointwise nat_eq) those (take (length those) these)) || (pointwise nat_eq this that && pointwise (pointwise nat_eq) these (take (length these) those))) (nat_list_eq_equiv.symm this that)
