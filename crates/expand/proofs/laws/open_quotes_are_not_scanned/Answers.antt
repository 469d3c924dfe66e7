use Rattle.expand.proofs.ScanLaws.{open_not_read}
use Rattle.expand.proofs.laws.open_quotes_are_not_scanned.Goals as goal

pub returns : goal.returns
returns c = open_not_read
