use Rattle.std.proofs.Common.{subst, ◌∷◌, []}
use Rattle.plain.specs.PrivateMarks.{MarksMore}
use Rattle.stages.specs.Needed.{origins_in}
use Rattle.stages.specs.PrivateMarks.{HasStage}
use Rattle.stages.proofs.MarkFacts.{both_marked}
use Rattle.stages.proofs.marks.mark_stage.Goals as goal

pub returns : goal.returns
returns c =
    let named = subst (λ rs. MarksMore c.mark_one.new.marks.items c.mark_named.new.marks.items (HasStage (origins_in rs))) c.as_slice.ensures c.mark_named.ensures in
    both_marked _ _ _ (c.args.stage.now.base ∷ []) (origins_in c.args.stage.now.instructions) c.mark_one.ensures named
