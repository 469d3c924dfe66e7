-- What is known of trees in a memo tells the truth of each of its generations.
use Rattle.std.proofs.Common.{◌≡◌, ℕ, zero, suc, List, [], ◌∷◌, length, Option, Some, None, ap, subst, arith}
use Rattle.std.specs.Prelude.{slice_get}
use Rattle.std.proofs.lemmas.Option.{slice_get-get_or}
use Rattle.trees.specs.TreeMap.{TreeMap, empty_tree}
use Rattle.memo.specs.declared.number.Age.{Age}
use Rattle.memo.specs.declared.number.Age.TheVariants.{Recent, Earlier}
use Rattle.memo.specs.declared.number.TreeNumber.{TreeNumber}
use Rattle.memo.specs.Memo.{MemoValue}
use Rattle.memo.specs.Numbers.{generation_of, numbered, AreKnown, at_in, known_in}
use Rattle.memo.specs.PrivateGeneration.{tree_at, trees_at, AreBelow, AreAt, Tells}

of_age : (age other : Age) (at number : ℕ) → at_in age other at ≡ Some number → record { age = other; at = at } ≡ numbered age number
of_age Recent Recent at number e = let same : at ≡ number = cc in ap (λ n. numbered Recent n) same
of_age Recent Earlier at number e = cc
of_age Earlier Recent at number e = cc
of_age Earlier Earlier at number e = let same : at ≡ number = cc in ap (λ n. numbered Earlier n) same

known_is : (age : Age) (known : Option (Option TreeNumber)) (number : ℕ) → known_in age known ≡ Some number → known ≡ Some (Some (numbered age number))
known_is age None number e = cc
known_is age (Some None) number e = cc
known_is age (Some (Some found)) number e = ap (λ n. Some (Some n)) (of_age age found.age found.at number e)

pub known-tells : {E : Type 0} (memo : MemoValue E) (age : Age) (known : List (Option TreeNumber)) (trees : List TreeMap) → AreKnown memo known trees → Tells age (generation_of memo age).trees known trees
known-tells memo age known trees are = λ k number e. are k (numbered age number) (known_is age (slice_get known k) number e)

at_number : (kept : List TreeMap) (numbers : List ℕ) → AreBelow (length kept) numbers → (k at : ℕ) → slice_get numbers k ≡ Some at → slice_get kept at ≡ slice_get (trees_at kept numbers) k
at_number kept [] below k at e = cc
at_number kept (number ∷ numbers) below zero at e =
    let same : number ≡ at = cc in
    subst (λ n. slice_get kept n ≡ Some (tree_at kept number)) same (slice_get-get_or kept number empty_tree (below 0 number (omega arith)))
at_number kept (number ∷ numbers) below (suc k) at e = at_number kept numbers (λ j d l. below (suc j) d (omega (arith, l))) k at e

-- numbers at which given trees stand are those of the trees
pub at-numbers : (kept : List TreeMap) (numbers : List ℕ) (trees : List TreeMap) → AreBelow (length kept) numbers → trees_at kept numbers ≡ trees → AreAt kept numbers trees
at-numbers kept numbers trees below same = λ k at e. subst (λ ts. slice_get kept at ≡ slice_get ts k) same (at_number kept numbers below k at e)
