use Rattle.std.proofs.Common.{◌∙◌, sym, ap, subst, ℕ, List}
use Rattle.std.specs.List.Sorted.{IsStrictlySortedBy}
use Rattle.std.specs.Map.{keys_of}
use Rattle.paths.specs.Order.{name_cmp}
use Rattle.trees.specs.Branch.{from_name}
use Rattle.trees.proofs.SeenSteps.{seen_kids-names, seen_kids-from}
use Rattle.trees.proofs.lent_kids.LentKids.iter_from.Goals as goal

pub returns-clause-from : goal.returns-clause-from
returns-clause-from c = c.iter_from.ensures.from ∙ sym (seen_kids-from c.self.inside.options c.args.front.now c.self.inside.kids.now) ∙ ap (from_name c.args.front.now) c.self.view_is

pub returns-clause-ordered : goal.returns-clause-ordered
returns-clause-ordered c = subst (λ (names : List (List ℕ)). IsStrictlySortedBy name_cmp names) (sym (seen_kids-names c.self.inside.options c.self.inside.kids.now) ∙ ap keys_of c.self.view_is) c.iter_from.ensures.ordered
