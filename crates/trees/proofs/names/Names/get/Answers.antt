use Rattle.std.proofs.Common.{◌∙◌, ap}
use Rattle.std.specs.Map.{lookup}
use Rattle.std.specs.BTreeMap.{is_at}
use Rattle.paths.specs.Order.{name_cmp}
use Rattle.trees.proofs.NameSteps.{stands-of, goes-of, stands-found, goes-none}
use Rattle.trees.proofs.names.Names.get.Goals as goal

pub returns-in-Ok : goal.returns-in-Ok
returns-in-Ok c =
    let stands = stands-of c.args.name.now c.as_slice.result.now c.self.inside.rows.items c.in-Ok.at c.as_slice.ensures.value c.in-Ok.ensures.stands in
    record { value = stands-found c.args.name.now c.self.inside.rows.items c.in-Ok.at c.index.result.now c.self.invariant stands c.index.ensures ∙ ap (lookup (is_at (name_cmp c.args.name.now))) c.self.view_is }

pub returns-in-Err : goal.returns-in-Err
returns-in-Err c =
    let goes = goes-of c.args.name.now c.as_slice.result.now c.self.inside.rows.items c.in-Err.field-0 c.as_slice.ensures.value c.in-Err.ensures.absent in
    record { value = goes-none c.args.name.now c.self.inside.rows.items c.in-Err.field-0 goes ∙ ap (lookup (is_at (name_cmp c.args.name.now))) c.self.view_is }
