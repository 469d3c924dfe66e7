use Rattle.plans.proofs.RequestLaws.{request_of-fits}
use Rattle.plans.proofs.laws.request_fits.Goals as goal

pub returns : goal.returns
returns c = request_of-fits
