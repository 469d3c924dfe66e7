use Rattle.std.proofs.Common.{Bor, option_map}
use Rattle.plain.specs.declared.text.Text.{Text}
use Rattle.stages.proofs.TargetFacts.{answers_target, answers_ok, answers_err, targeted_table}
use Rattle.stages.proofs.target_table.TargetTable.resolve.Goals as goal

pub returns-in_default-clause-table : goal.returns-in_default-clause-table
returns-in_default-clause-table g c =
    answers_target _ _ (option_map (λ (t : Bor Text). t.now) c.args.target) c.args.file _ c.target_of.result c.refused.result
    c.instructions.ensures.list c.target_of.ensures c.in_default.is c.refused.ensures

pub invariant_of-result : goal.invariant_of-result
invariant_of-result g c =
    targeted_table _ _ (option_map (λ (t : Bor Text). t.now) c.args.target) c.args.file _ c.target_of.result c.in-Some.target c.in-Ok.table
    c.instructions.ensures.list c.target_of.ensures c.in-Some.is c.in-Ok.ensures.table c.stages-known.ensures.whole

pub returns-in-Ok-clause-table : goal.returns-in-Ok-clause-table
returns-in-Ok-clause-table g c =
    answers_ok _ _ (option_map (λ (t : Bor Text). t.now) c.args.target) c.args.file _ c.target_of.result c.in-Some.target c.in-Ok.table
    c.instructions.ensures.list c.target_of.ensures c.in-Some.is c.in-Ok.ensures.table

pub returns-in-Err-clause-table : goal.returns-in-Err-clause-table
returns-in-Err-clause-table g c =
    answers_err _ _ (option_map (λ (t : Bor Text). t.now) c.args.target) c.args.file _ c.target_of.result c.in-Some.target c.in-Err.fault
    c.instructions.ensures.list c.target_of.ensures c.in-Some.is c.in-Err.ensures.table
