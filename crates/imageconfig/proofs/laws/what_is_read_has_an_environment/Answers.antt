use Rattle.imageconfig.proofs.ReadFacts.{read_is}
use Rattle.imageconfig.proofs.laws.what_is_read_has_an_environment.Goals as goal

pub returns : goal.returns
returns c = read_is
