use Rattle.options.proofs.FlagLaws.{mode_fits}
use Rattle.options.proofs.laws.modes_fit.Goals as goal

pub returns : goal.returns
returns c = mode_fits
