use Rattle.std.proofs.Common.{◌∙◌}
use Rattle.stages.proofs.WholeFacts.{answers_arguments, answers_refused, whole_requires, answers_table, table_known_by}
use Rattle.stages.proofs.table.StageTable.resolve.Goals as goal

pub returns-then-are_arguments-clause-table : goal.returns-then-are_arguments-clause-table
returns-then-are_arguments-clause-table g c =
    answers_arguments _ _ c.args.file _ _ c.refused.result (c.as_slice.ensures ∙ c.into_instructions-instructions.ensures.list)
    c.are_arguments.ensures c.if-are_arguments.true c.refused.ensures

pub returns-in-Err-clause-table : goal.returns-in-Err-clause-table
returns-in-Err-clause-table g c =
    let list = c.into_instructions-instructions.ensures.list in
    answers_refused _ _ c.args.file _ _ _ c.in-Err.fault (c.as_slice.ensures ∙ list) (c.into_vec.ensures ∙ list) c.are_arguments.ensures
    c.if-are_arguments.false c.in-Err.ensures

pub of_draft-requires : goal.of_draft-requires
of_draft-requires g c =
    whole_requires _ _ c.into_instructions-instructions.result _ _ _ c.in-Ok.draft c.into_instructions-instructions.ensures.whole
    c.as_slice.ensures c.into_vec.ensures c.are_arguments.ensures c.if-are_arguments.false c.in-Ok.ensures

pub returns-clause-table : goal.returns-clause-table
returns-clause-table g c =
    let list = c.into_instructions-instructions.ensures.list in
    answers_table _ _ c.args.file _ _ _ c.in-Ok.draft c.in_ok-table.table (c.as_slice.ensures ∙ list) (c.into_vec.ensures ∙ list)
    c.are_arguments.ensures c.if-are_arguments.false c.in-Ok.ensures c.in_ok-table.ensures

pub returns-clause-known : goal.returns-clause-known
returns-clause-known g c = table_known_by _ _ _ c.in-Ok.draft c.in_ok-table.table c.in-Ok.ensures c.in_ok-table.ensures
