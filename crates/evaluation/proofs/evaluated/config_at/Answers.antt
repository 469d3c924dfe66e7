use Rattle.std.specs.Prelude.{◌≡◌, Option, IfOk}
use Rattle.std.proofs.Common.{subst}
use Rattle.imageconfig.specs.declared.config.Config.{Config}
use Rattle.evaluation.specs.Evaluated.{config_of}
use Rattle.evaluation.specs.declared.state.State.{State}
use Rattle.evaluation.proofs.evaluated.config_at.Goals as goal

pub returns : goal.returns
returns c = subst (λ (found : Option State). IfOk c.config_of.result (λ (config : Config). config ≡ config_of found)) c.state_at.ensures c.config_of.ensures
