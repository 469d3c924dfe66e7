use Rattle.std.proofs.Common.{◌∙◌}
use Rattle.std.specs.FinMap.{get}
use Rattle.evaluation.proofs.EvaluatedFacts.{answers_reported, answers_made}
use Rattle.evaluation.proofs.WholeFacts.{answers_whole, whole_none}
use Rattle.evaluation.proofs.evaluated.evaluate_needed.Goals as goal

pub returns-in-Ok-clause-answers : goal.returns-in-Ok-clause-answers
returns-in-Ok-clause-answers c =
    answers_made (get c.args.args.now) c.args.images c.args.context c.args.table _ _ _ _ c.in-Ok.walk c.make.result
    c.into_parts-outer.ensures.outer (c.into_vec.ensures ∙ c.into_parts-outer.ensures.stages) c.into_parts-outer.ensures.target c.requires c.in-Ok.ensures c.make.ensures

pub returns-in-Ok-clause-whole : goal.returns-in-Ok-clause-whole
returns-in-Ok-clause-whole c =
    answers_whole
    (record {
      runs = c.runs_are_well_formed.ensures;
      copies = c.copies_are_well_formed.ensures;
      kept_names = c.environments_have_the_names_of_declarations.ensures.kept;
      variable_names = c.lines_declare_their_names.ensures.variables;
      argument_names = c.lines_declare_their_names.ensures.arguments;
      names_fit = c.names_fit_environments.ensures;
    })
    (get c.args.args.now) _ c.args.images c.args.context c.args.table _ _ _ _ c.in-Ok.walk c.make.result
    c.into_parts-outer.ensures.whole (c.into_vec.ensures ∙ c.into_parts-outer.ensures.stages) (c.as_slice.ensures ∙ c.into_parts-outer.ensures.stages) c.into_parts-outer.ensures.target c.requires
    c.keep_names.ensures c.in-Ok.ensures c.make.ensures

pub returns-clause-answers : goal.returns-clause-answers
returns-clause-answers c =
    answers_reported (get c.args.args.now) c.args.images c.args.context c.args.table _ _ _ _ c.in-Err.fault
    c.into_parts-outer.ensures.outer (c.into_vec.ensures ∙ c.into_parts-outer.ensures.stages) c.requires c.in-Err.ensures

pub returns-clause-whole : goal.returns-clause-whole
returns-clause-whole c = whole_none _ _ _
