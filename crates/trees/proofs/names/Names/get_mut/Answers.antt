use Rattle.std.proofs.Common.{◌∙◌, ap, refl}
use Rattle.std.specs.Map.{lookup}
use Rattle.std.specs.BTreeMap.{is_at}
use Rattle.paths.specs.Order.{name_cmp}
use Rattle.trees.proofs.NameSteps.{stands-of, goes-of, given-of, stands-inside, stands-found, goes-none, given-set, given-none, set-rise}
use Rattle.trees.proofs.names.Names.get_mut.Goals as goal

pub invariant_of-self-lent : goal.invariant_of-self-lent
invariant_of-self-lent c = λ w.
    let stands = stands-of c.args.name.now c.as_slice.result.now c.self.inside.rows.items c.in-Ok.at c.as_slice.ensures.value c.in-Ok.ensures.stands in
    set-rise c.self.inside.rows.items c.in-Ok.at c.index_mut.result.now (c.index_mut.result.now.0, w) c.self.invariant (stands-inside c.args.name.now c.self.inside.rows.items c.in-Ok.at stands) c.index_mut.ensures.value refl

pub returns-in-Ok : goal.returns-in-Ok
returns-in-Ok c =
    let stands = stands-of c.args.name.now c.as_slice.result.now c.self.inside.rows.items c.in-Ok.at c.as_slice.ensures.value c.in-Ok.ensures.stands in (
      (
        refl,
        λ w. given-of c.args.name.now w c.self.inside.rows.items c.args.self.now _ c.self.view_is (given-set c.args.name.now w c.self.inside.rows.items _ c.in-Ok.at c.index_mut.result.now (c.index_mut.result.now.0, w) c.self.invariant stands c.index_mut.ensures.value refl refl refl),
        refl,
      ),
      record { lends = tt; value = stands-found c.args.name.now c.self.inside.rows.items c.in-Ok.at c.index_mut.result.now c.self.invariant stands c.index_mut.ensures.value ∙ ap (lookup (is_at (name_cmp c.args.name.now))) c.self.view_is },
    )

pub returns-in-Err : goal.returns-in-Err
returns-in-Err c =
    let goes = goes-of c.args.name.now c.as_slice.result.now c.self.inside.rows.items c.in-Err.field-0 c.as_slice.ensures.value c.in-Err.ensures.absent in (
      (refl, λ w. given-of c.args.name.now w c.self.inside.rows.items c.args.self.now _ c.self.view_is (given-none c.args.name.now w c.self.inside.rows.items c.in-Err.field-0 goes), c.self.view_is),
      record { lends = tt; value = goes-none c.args.name.now c.self.inside.rows.items c.in-Err.field-0 goes ∙ ap (lookup (is_at (name_cmp c.args.name.now))) c.self.view_is },
    )
