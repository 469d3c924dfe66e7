use Rattle.std.proofs.Common.{◌∙◌, sym, ap, subst, ℕ, List}
use Rattle.std.specs.List.Sorted.{IsStrictlySortedBy}
use Rattle.std.specs.Map.{keys_of}
use Rattle.paths.specs.Order.{name_cmp}
use Rattle.trees.proofs.SeenSteps.{seen_kids-names}
use Rattle.trees.proofs.lent_kids.LentKids.iter.Goals as goal

pub returns-clause-ordered : goal.returns-clause-ordered
returns-clause-ordered c = subst (λ (names : List (List ℕ)). IsStrictlySortedBy name_cmp names) (sym (seen_kids-names c.self.inside.options c.self.inside.kids.now) ∙ ap keys_of c.self.view_is) c.iter.ensures.ordered
