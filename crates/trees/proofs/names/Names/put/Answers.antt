use Rattle.std.proofs.Common.{◌∙◌, refl}
use Rattle.std.specs.List.{insert}
use Rattle.trees.proofs.KidLists.{sorted-from_keys}
use Rattle.trees.proofs.PartSteps.{put-from}
use Rattle.trees.proofs.NameSteps.{stands-of, goes-of, stands-inside, put-set, put-new, set-rise}
use Rattle.trees.proofs.names.Names.put.Goals as goal

pub invariant_of-self : goal.invariant_of-self
invariant_of-self c =
    let stands = stands-of c.args.name.now c.as_slice.result.now c.self.inside.rows.items c.in-Ok.at c.as_slice.ensures.value c.in-Ok.ensures.stands in
    set-rise c.self.inside.rows.items c.in-Ok.at c.index_mut.result.now (c.index_mut.result.now.0, c.args.kid) c.self.invariant (stands-inside c.args.name.now c.self.inside.rows.items c.in-Ok.at stands) c.index_mut.ensures.value refl

pub returns-in-Ok-clause-ok : goal.returns-in-Ok-clause-ok
returns-in-Ok-clause-ok c =
    let stands = stands-of c.args.name.now c.as_slice.result.now c.self.inside.rows.items c.in-Ok.at c.as_slice.ensures.value c.in-Ok.ensures.stands in
    put-from c.args.name.now c.args.kid c.self.inside.rows.items c.args.self.now _ c.self.view_is (put-set c.args.name.now c.args.kid c.self.inside.rows.items _ c.in-Ok.at c.index_mut.result.now (c.index_mut.result.now.0, c.args.kid) c.self.invariant stands c.index_mut.ensures.value refl refl refl)

pub invariant_of-self-in-Err : goal.invariant_of-self-in-Err
invariant_of-self-in-Err c =
    let goes = goes-of c.args.name.now c.as_slice.result.now c.self.inside.rows.items c.in-Err.at c.as_slice.ensures.value c.in-Err.ensures.absent in
    sorted-from_keys _ (put-new c.args.name.now c.args.kid c.self.inside.rows.items c.insert.new.self.items c.in-Err.at c.self.invariant goes (c.in_ok-insert-in-Err.ensures.items ∙ (λ i. insert (c.grow.ensures i) c.in-Err.at (c.in_ok-copy-in-Err.ensures i, c.args.kid)))).rise

pub returns-in_ok-insert-in-Err-clause-ok : goal.returns-in_ok-insert-in-Err-clause-ok
returns-in_ok-insert-in-Err-clause-ok c =
    let goes = goes-of c.args.name.now c.as_slice.result.now c.self.inside.rows.items c.in-Err.at c.as_slice.ensures.value c.in-Err.ensures.absent in
    put-from c.args.name.now c.args.kid c.self.inside.rows.items c.args.self.now _ c.self.view_is
    (put-new c.args.name.now c.args.kid c.self.inside.rows.items c.insert.new.self.items c.in-Err.at c.self.invariant goes (c.in_ok-insert-in-Err.ensures.items ∙ (λ i. insert (c.grow.ensures i) c.in-Err.at (c.in_ok-copy-in-Err.ensures i, c.args.kid))))
