use Rattle.paths.proofs.ReadingLaws.{read_from-append}
use Rattle.paths.proofs.laws.reading_may_be_cut.Goals as goal

pub returns : goal.returns
returns c = read_from-append
