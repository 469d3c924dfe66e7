use Rattle.std.proofs.Common.{subst, sym}
use Rattle.globs.specs.Component.{HasFront}
use Rattle.globs.proofs.Beginnings.{front-first}
use Rattle.globs.proofs.component.Component.first_byte.Goals as goal

pub returns-in-Plain : goal.returns-in-Plain
returns-in-Plain c = front-first c.args.self.now c.as_str.result.now c.first_byte.result (subst (HasFront c.args.self.now) (sym c.as_str.ensures) c.front.ensures) c.first_byte.ensures
