use Rattle.std.specs.FinMap.{get}
use Rattle.std.proofs.Common.{◌∙◌}
use Rattle.evaluation.proofs.JudgingFacts.{table_judged}
use Rattle.evaluation.proofs.faults.list_needed.Goals as goal

pub returns : goal.returns
returns c =
    table_judged (get c.args.args.now) _ c.args.table _ _ _ c.judge_stages.result c.into_parts-outer.ensures.outer (c.into_vec.ensures ∙ c.into_parts-outer.ensures.stages)
    c.requires c.judge_stages.ensures
