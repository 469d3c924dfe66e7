use Rattle.std.proofs.Common.{subst}
use Rattle.strict.specs.Gives.{Gives}
use Rattle.imageconfig.proofs.NameFacts.{taken-all}
use Rattle.imageconfig.proofs.rows.Rows.once.Goals as goal

pub returns : goal.returns
returns c = subst (Gives c.added.result) (taken-all c.args.rows) c.added.ensures
