use Rattle.expand.proofs.SyntaxLaws.{syntax-only}
use Rattle.expand.proofs.laws.syntaxes_are_unique.Goals as goal

pub returns : goal.returns
returns c = syntax-only
