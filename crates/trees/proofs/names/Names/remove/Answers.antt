use Rattle.std.proofs.Common.{sym, ap, refl, ◌∙◌, length}
use Rattle.std.specs.FinMap.Entries.{is_sorted}
use Rattle.paths.specs.Order.{name_cmp}
use Rattle.trees.proofs.KidLists.{sorted-from_keys}
use Rattle.trees.proofs.NameSteps.{stands-of, goes-of, taken-of, taken-at, taken-none, says-none}
use Rattle.trees.proofs.names.Names.remove.Goals as goal

pub invariant_of-self : goal.invariant_of-self
invariant_of-self c =
    let stands = stands-of c.args.name.now c.as_slice.result.now c.self.inside.rows.items c.in-Ok.at c.as_slice.ensures.value c.in-Ok.ensures.stands in
    sorted-from_keys _ (taken-at c.args.name.now c.self.inside.rows.items c.remove.new.self.items c.in-Ok.at _ c.self.invariant stands c.remove.ensures.items (says-none c.remove.new.self.len _ c.remove.new.self.items c.is_empty.ensures c.remove.new.self.ok.0)).rise

pub returns-in-Ok : goal.returns-in-Ok
returns-in-Ok c =
    let stands = stands-of c.args.name.now c.as_slice.result.now c.self.inside.rows.items c.in-Ok.at c.as_slice.ensures.value c.in-Ok.ensures.stands in
    taken-of c.args.name.now c.self.inside.rows.items c.args.self.now _ _ c.self.view_is (taken-at c.args.name.now c.self.inside.rows.items c.remove.new.self.items c.in-Ok.at _ c.self.invariant stands c.remove.ensures.items (says-none c.remove.new.self.len _ c.remove.new.self.items c.is_empty.ensures c.remove.new.self.ok.0))

pub returns-in-Err : goal.returns-in-Err
returns-in-Err c =
    let goes = goes-of c.args.name.now c.as_slice.result.now c.args.self.now c.in-Err.field-0 (c.as_slice.ensures.value ∙ c.self.view_is) c.in-Err.ensures.absent in
    taken-none c.args.name.now c.args.self.now c.in-Err.field-0 _ (ap (is_sorted name_cmp) (sym c.self.view_is) ∙ c.self.invariant) goes
    (says-none c.len.result _ c.args.self.now refl (c.len.ensures ∙ c.self.inside.rows.ok.0 ∙ ap length c.self.view_is))
