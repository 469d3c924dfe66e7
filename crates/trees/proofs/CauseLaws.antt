-- A tree or a cause: which of the two, by the cause that there is or isn't.
use Rattle.std.specs.Prelude.{◌≡◌, Option, Some, None, Ok, Err}
use Rattle.std.proofs.Common.{ap, refl, ◌∙◌, sym}
use Rattle.trees.specs.declared.cause.Cause.{Cause}
use Rattle.trees.specs.TreeMap.{TreeMap}
use Rattle.trees.specs.Cause.{tree_or}

-- where it is a tree, there is no cause
pub tree_or-ok : (cause : Option Cause) (tree new : TreeMap) → tree_or cause tree ≡ Ok new → (cause ≡ None) × (tree ≡ new)
tree_or-ok None tree new e = (refl, cc)
tree_or-ok (Some cause) tree new e = cc

-- without a cause it is this tree
pub tree_or-none : (cause : Option Cause) (tree new : TreeMap) → cause ≡ None → new ≡ tree → tree_or cause tree ≡ Ok new
tree_or-none cause tree new none same = ap (λ c. tree_or c tree) none ∙ ap Ok (sym same)

-- with a cause there is none
pub tree_or-some : (found : Option Cause) (cause : Cause) (tree : TreeMap) → found ≡ Some cause → tree_or found tree ≡ Err cause
tree_or-some found cause tree some = ap (λ c. tree_or c tree) some

-- where it is a cause, that is the cause
pub tree_or-err : (found : Option Cause) (tree : TreeMap) (cause : Cause) → tree_or found tree ≡ Err cause → found ≡ Some cause
tree_or-err None tree cause e = cc
tree_or-err (Some x) tree cause e = cc
