use Rattle.std.proofs.Common.{List, ap, ◌∙◌}
use Rattle.imageconfig.specs.Lines.{env_rows}
use Rattle.imageconfig.specs.Rows.{Row, put_rows}
use Rattle.imageconfig.proofs.EnvLaws.{env-line-kept, inherited-kept, arg-kept}
use Rattle.imageconfig.proofs.laws.scopes_and_configurations_have_the_same_environment.Goals as goal

pub returns-clause-env : goal.returns-clause-env
returns-clause-env c before config ds assignments same =
    env-line-kept ds before assignments ∙ ap (λ (rows : List Row). put_rows rows (env_rows before assignments)) same

pub returns-clause-inherited : goal.returns-clause-inherited
returns-clause-inherited c = inherited-kept

pub returns-clause-arg : goal.returns-clause-arg
returns-clause-arg c before args outer ds arguments = arg-kept ds before args outer arguments
