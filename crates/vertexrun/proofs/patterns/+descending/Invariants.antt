use Rattle.std.proofs.Common.{◌≡◌, ◌∷◌, ◌++◌, ◌+◌, ◌*◌, length, true}
use Rattle.std.specs.FinMap.{entries}
use Rattle.std.specs.FinMap.Entries.{is_sorted}
use Rattle.paths.specs.Order.{name_cmp}
use Rattle.globs.specs.Glob.{matches}
use Rattle.trees.specs.Branch.{rows_of_children}
use Rattle.vertexrun.specs.PrivateMatches.{paths_that, AreClean}
use Rattle.vertexrun.proofs.FrontSteps.{AreFrom}
use Rattle.vertexrun.proofs.patterns.+descending.Given as goal

abbrev pub decreases-descend : goal.decreases-descend
decreases-descend l = 3 * length l.components.now

abbrev pub decreases-enter : goal.decreases-enter
decreases-enter l = 3 * length l.components.now + 1

abbrev pub decreases-go_through : goal.decreases-go_through
decreases-go_through l = 3 * length l.rest.now + 2

-- what was found, and what is left of the children, are all that is found below the branch
abbrev pub invariant-go_through-loop-name : goal.invariant-go_through-loop-name
invariant-go_through-loop-name l = record {
  found : l.found.items ++ paths_that l.at (matches (l.component ∷ l.rest)) (rows_of_children l.children) ≡ l.initial.found.items ++ paths_that l.at (matches (l.component ∷ l.rest)) (entries l.branch);
  clean : AreClean l.at (rows_of_children l.children);
  rise : is_sorted name_cmp l.children ≡ true;
  from : AreFrom l.front l.children;
}

abbrev pub decreases-go_through-loop-name : goal.decreases-go_through-loop-name
decreases-go_through-loop-name l = length l.children
