use Rattle.paths.proofs.ReadingLaws.{cleaned-IsCleaning, only_cleaning}
use Rattle.paths.proofs.laws.clean_form_is_unique.Goals as goal

pub returns-clause-clean : goal.returns-clause-clean
returns-clause-clean c = cleaned-IsCleaning

pub returns-clause-only : goal.returns-clause-only
returns-clause-only c = only_cleaning
