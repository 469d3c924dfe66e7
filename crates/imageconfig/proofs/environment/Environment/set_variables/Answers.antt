use Rattle.std.proofs.Common.{List, ap, ◌∙◌}
use Rattle.std.specs.List.{list_all}
use Rattle.plain.specs.VariableName.{is_variable_name}
use Rattle.imageconfig.specs.Rows.{Row, names_of}
use Rattle.imageconfig.proofs.NameFacts.{environment-kept, row_names}
use Rattle.imageconfig.proofs.environment.Environment.set_variables.Goals as goal

pub invariant_of-self : goal.invariant_of-self
invariant_of-self c =
    environment-kept c.set_all.result c.self.inside.rows c.set_all.new.self c.in_ok-rows.rows c.set_all.ensures.ok c.set_all.ensures.err c.self.invariant
    (ap (λ (rows : List Row). list_all is_variable_name (names_of rows)) c.in_ok-rows.ensures.rows
    ∙ ap (list_all is_variable_name) (row_names c.args.variables.now) ∙ c.in_ok-rows.ensures.names)
