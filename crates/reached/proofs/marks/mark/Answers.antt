use Rattle.std.proofs.Common.{arith, refl, subst, sym, ap, ◌∙◌, ◌++◌, ◌∷◌, ◌<◌, [], length, take}
use Rattle.std.proofs.lemmas.List.{take_more}
use Rattle.std.specs.Vec.{vec_len}
use Rattle.reached.proofs.MarkFacts.{none_more, one_more}
use Rattle.reached.proofs.marks.mark.Goals as goal

pub loop-id-init : goal.loop-id-init
loop-id-init c = none_more _ _ refl

pub loop-id-preserved : goal.loop-id-preserved
loop-id-preserved c =
    let id = c.id-item.result in
    let inside : id < length c.args.marks.now.items =
    omega (
      arith,
      subst (λ i. i < vec_len c.args.marks.now) (sym c.id-item.is) (c.requires c.loop-id.id-index id c.loop-id-test.true),
      c.args.marks.now.ok.0,
    ) in
    let more = take_more c.args.ids.now c.loop-id.id-index id c.loop-id-test.true
    ∙ ap (λ i. take c.loop-id.id-index c.args.ids.now ++ i ∷ []) (sym c.id-item.is) in
    rw (c.index.ensures, more) (one_more _ _ (take c.loop-id.id-index c.args.ids.now) id inside c.loop-id.invariant)
