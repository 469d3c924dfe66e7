use Rattle.paths.proofs.ReadingLaws.{read_from-text_of, limit_of-clean}
use Rattle.paths.proofs.laws.text_reads_back.Goals as goal

pub returns : goal.returns
returns c p base h = (read_from-text_of p base h.names, limit_of-clean p h)
