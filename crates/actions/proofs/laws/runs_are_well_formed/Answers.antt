use Rattle.plain.specs.VariableName.{is_variable_name}
use Rattle.actions.proofs.ActionLaws.{run_is_action}
use Rattle.actions.proofs.laws.runs_are_well_formed.Goals as goal

pub returns : goal.returns
returns c scope dir user shell mounts command origins whole count names none =
    run_is_action scope dir user shell mounts command origins whole count (c.environments_name_each_variable_once.ensures scope)
    (c.environments_have_the_names_of_declarations.ensures.environment is_variable_name scope names) none
