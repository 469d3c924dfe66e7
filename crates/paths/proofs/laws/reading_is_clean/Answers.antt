use Rattle.paths.proofs.ReadingLaws.{read_from-clean}
use Rattle.paths.proofs.laws.reading_is_clean.Goals as goal

pub returns : goal.returns
returns c = read_from-clean
