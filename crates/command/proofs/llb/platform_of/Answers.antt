use Rattle.std.proofs.Common.{◌≡◌, subst}
use Rattle.std.specs.Prelude.{IfOk}
use Rattle.command.specs.Llb.{platform_named}
use Rattle.command.proofs.llb.platform_of.Goals as goal

pub returns : goal.returns
returns c = subst (λ text. IfOk c.platform_named.result (λ platform. platform ≡ platform_named text)) c.chosen_text.ensures c.platform_named.ensures
