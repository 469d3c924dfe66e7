use Rattle.std.proofs.Common.{ap, refl, ◌∙◌, ◌+◌, sym, []}
use Rattle.trees.specs.PrivateSeen.{seen_kids}
use Rattle.std.specs.FinMap.Entries.{is_sorted}
use Rattle.paths.specs.Order.{name_cmp}
use Rattle.paths.proofs.FrontLaws.{both_first, both_second}
use Rattle.trees.specs.PrivateNode.{lists_of, are_full}
use Rattle.trees.proofs.KidLists.{keys-from_sorted}
use Rattle.trees.proofs.FromSteps.{folder-from, folder-none, full-behind}
use Rattle.trees.proofs.children.Children.iter_from.Goals as goal

pub of_begun-requires : goal.of_begun-requires
of_begun-requires c = full-behind c.as_slice-parts.result.now c.self.inside.parts.items (c.place-at.result + 1) c.as_slice-parts.ensures.value (both_first _ _ c.self.invariant)

pub returns-in-Some-clause-from : goal.returns-in-Some-clause-from
returns-in-Some-clause-from c =
    c.of_begun.ensures
    ∙ ap (seen_kids c.args.options) (folder-from c.args.front.now c.as_slice-parts.result.now c.self.inside.parts.items c.args.self.now _ c.place-at.result c.as_slice-parts.ensures.value c.self.view_is
    c.in-Some.part.now c.deref.result.now c.rows_from.result.now c.place-at.ensures c.in-Some.ensures.lookup.3.0 c.in-Some.ensures.lookup.1 c.deref.ensures c.rows_from.ensures refl)

pub returns-in-Some-clause-ordered : goal.returns-in-Some-clause-ordered
returns-in-Some-clause-ordered c = keys-from_sorted c.args.self.now (ap (is_sorted name_cmp) (sym c.self.view_is) ∙ both_second (are_full (lists_of c.self.inside.parts.items)) _ c.self.invariant)

pub returns-in-None-clause-from : goal.returns-in-None-clause-from
returns-in-None-clause-from c =
    c.none.ensures
    ∙ ap (seen_kids c.args.options)
    (folder-none c.args.front.now c.as_slice-parts.result.now c.self.inside.parts.items c.args.self.now [] c.place-at.result c.as_slice-parts.ensures.value c.self.view_is
    c.place-at.ensures c.in-None.ensures.lookup.3 refl)

pub returns-in-None-clause-ordered : goal.returns-in-None-clause-ordered
returns-in-None-clause-ordered c = keys-from_sorted c.args.self.now (ap (is_sorted name_cmp) (sym c.self.view_is) ∙ both_second (are_full (lists_of c.self.inside.parts.items)) _ c.self.invariant)
