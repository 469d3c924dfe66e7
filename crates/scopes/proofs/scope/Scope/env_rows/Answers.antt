use Rattle.std.proofs.Common.{List, ◌++◌, ap, sym, ◌∙◌}
use Rattle.scopes.specs.Scope.{run_env}
use Rattle.scopes.specs.PrivateMaps.{variable_rows, argument_rows}
use Rattle.plain.specs.declared.variable.Variable.{Variable}
use Rattle.scopes.proofs.MapLemmas.{run_env-declared}
use Rattle.scopes.proofs.NameLemmas.{envs_named, args_named}
use Rattle.scopes.proofs.scope.Scope.env_rows.Goals as goal

pub returns : goal.returns
returns c =
    c.in_ok-push_arguments.ensures
    ∙ ap (λ (rows : List Variable). rows ++ argument_rows c.self.inside.variables c.self.inside.arguments)
    (c.in_ok-push_variables.ensures ∙ ap (λ (rows : List Variable). rows ++ variable_rows c.self.inside.variables) c.in_ok-rows.ensures)
    ∙ sym (run_env-declared _ _ c.self.invariant.0) ∙ ap run_env c.self.view_is

pub push_variables-requires : goal.push_variables-requires
push_variables-requires c = envs_named c.self.inside.variables c.self.inside.arguments c.self.invariant.2

pub push_arguments-requires : goal.push_arguments-requires
push_arguments-requires c = args_named c.self.inside.variables c.self.inside.arguments c.self.invariant.2
