use Rattle.evaluation.proofs.MadeFacts.{formed, has_target, named}
use Rattle.evaluation.proofs.laws.what_is_evaluated_is_whole.Goals as goal

pub returns-clause-rows : goal.returns-clause-rows
returns-clause-rows c =
    formed
    (record {
      runs = c.runs_are_well_formed.ensures;
      copies = c.copies_are_well_formed.ensures;
      kept_names = c.environments_have_the_names_of_declarations.ensures.kept;
      variable_names = c.lines_declare_their_names.ensures.variables;
      argument_names = c.lines_declare_their_names.ensures.arguments;
      names_fit = c.names_fit_environments.ensures;
    })

pub returns-clause-target : goal.returns-clause-target
returns-clause-target c =
    has_target
    (record {
      runs = c.runs_are_well_formed.ensures;
      copies = c.copies_are_well_formed.ensures;
      kept_names = c.environments_have_the_names_of_declarations.ensures.kept;
      variable_names = c.lines_declare_their_names.ensures.variables;
      argument_names = c.lines_declare_their_names.ensures.arguments;
      names_fit = c.names_fit_environments.ensures;
    })

pub returns-clause-named : goal.returns-clause-named
returns-clause-named c =
    named
    (record {
      runs = c.runs_are_well_formed.ensures;
      copies = c.copies_are_well_formed.ensures;
      kept_names = c.environments_have_the_names_of_declarations.ensures.kept;
      variable_names = c.lines_declare_their_names.ensures.variables;
      argument_names = c.lines_declare_their_names.ensures.arguments;
      names_fit = c.names_fit_environments.ensures;
    })
