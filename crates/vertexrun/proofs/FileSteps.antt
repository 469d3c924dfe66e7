-- A copy by the number of its inputs.
use Rattle.std.specs.Prelude.{◌≡◌, ◌<◌, ◌≤◌, Some, Result, Ok, Err, IfOk, List, [], ◌∷◌, map, length, slice_index_or}
use Rattle.std.proofs.Common.{arith, ap, sym, ◌∙◌}
use Rattle.trees.specs.TreeMap.{TreeMap, empty_tree}
use Rattle.llb.specs.declared.op.CopyFiles.{CopyFiles}
use Rattle.trees.specs.Cause.{TreeOrCause}
use Rattle.plans.specs.Value.{Value, copied_files, copy_value}

-- a copy on one tree
pub copy_on-one : {X : Type 0} (f : X → TreeMap) (files : CopyFiles) (inputs : List X) (base : X) → 1 ≤ length inputs → length inputs < 2
    → base ≡ slice_index_or inputs 0 base → copy_value files (map f inputs) ≡ Some (copied_files files (f base) empty_tree)
copy_on-one f files [] base long short is = absurd (omega arith)
copy_on-one f files (x ∷ []) base long short is = ap (λ y. Some (copied_files files (f y) empty_tree)) (sym is)
copy_on-one f files (x ∷ (y ∷ xs)) base long short is = absurd (omega arith)

-- a copy on two trees
pub copy_on-two : {X : Type 0} (f : X → TreeMap) (files : CopyFiles) (inputs : List X) (base from : X) → 2 ≤ length inputs → length inputs < 3
    → base ≡ slice_index_or inputs 0 base → from ≡ slice_index_or inputs 1 from → copy_value files (map f inputs) ≡ Some (copied_files files (f base) (f from))
copy_on-two f files [] base from long short first second = absurd (omega arith)
copy_on-two f files (x ∷ []) base from long short first second = absurd (omega arith)
copy_on-two f files (x ∷ (y ∷ [])) base from long short first second =
    ap (λ z. Some (copied_files files (f z) (f y))) (sym first) ∙ ap (λ z. Some (copied_files files (f base) (f z))) (sym second)
copy_on-two f files (x ∷ (y ∷ (z ∷ xs))) base from long short first second = absurd (omega arith)

-- a call that gives a tree or a cause gives a value that is this one
pub gives_value : {E : Type 0} (answer : Result TreeOrCause E) (whole : Value) (value : TreeOrCause) → whole ≡ Some value
    → IfOk answer (λ given. given ≡ value) → IfOk answer (λ given. whole ≡ Some given)
gives_value (Ok given) whole value is gives = is ∙ ap Some (sym gives)
gives_value (Err error) whole value is gives = tt
