use Rattle.std.proofs.Common.{◌∙◌, sym}
use Rattle.globs.proofs.Tests.{name-from}
use Rattle.globs.proofs.component.Component.plain_name.Goals as goal

pub returns-in-Some : goal.returns-in-Some
returns-in-Some c other relates = (c.in-Some.ensures other).0 (name-from c.args.self.now other relates) ∙ sym c.as_str.ensures
