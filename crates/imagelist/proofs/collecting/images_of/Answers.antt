use Rattle.std.proofs.Common.{◌+◌, ◌∙◌, List, drop, sym, ap, arith}
use Rattle.std.proofs.lemmas.List.{drop_all}
use Rattle.stages.specs.declared.stage.ResolvedStage.{ResolvedStage}
use Rattle.imagelist.specs.Images.{namings_from}
use Rattle.imagelist.specs.PrivateCollecting.{with_namings}
use Rattle.imagelist.proofs.CollectFacts.{next_item, stages_added, stages_step}
use Rattle.imagelist.proofs.collecting.images_of.Goals as goal

pub loop-number-preserved : goal.loop-number-preserved
loop-number-preserved c =
    let stages = c.args.stages.now in
    let number = c.loop-number.number in
    stages_step c.args.marks.now number c.loop-number.images c.add_stage.new.rows (drop number stages) (drop (number + 1) stages) c.index-stages-number.result
    c.is_marked.result _ (next_item stages number c.index-stages-number.result c.loop-number-test.true c.index-stages-number.is) c.is_marked.ensures
    c.in_ok-add_stage.ensures c.loop-number.invariant

pub returns : goal.returns
returns c =
    let stages = c.args.stages.now in
    let now = c.loop-number in
    stages_added c.args.marks.now stages now.images
    (sym (ap (λ (rest : List ResolvedStage). with_namings now.images (namings_from c.args.marks.now now.number rest)) (drop_all now.number stages (omega arith))) ∙ now.invariant)
