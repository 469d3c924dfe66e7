use Rattle.options.proofs.FlagLaws.{from_is_filled}
use Rattle.options.proofs.laws.from_names_something.Goals as goal

pub returns : goal.returns
returns c = from_is_filled
