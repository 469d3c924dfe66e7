use Rattle.paths.proofs.ReadingLaws.{read_from-cleaned}
use Rattle.paths.proofs.laws.reading_gives_the_clean_form.Goals as goal

pub returns : goal.returns
returns c = read_from-cleaned
