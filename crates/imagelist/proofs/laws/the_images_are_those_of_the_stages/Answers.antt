use Rattle.imagelist.proofs.LawFacts.{images_named, images_on_lines, images_needed}
use Rattle.imagelist.proofs.laws.the_images_are_those_of_the_stages.Goals as goal

pub returns-clause-named : goal.returns-clause-named
returns-clause-named c = images_named

pub returns-clause-lines : goal.returns-clause-lines
returns-clause-lines c = images_on_lines

pub returns-clause-needed : goal.returns-clause-needed
returns-clause-needed c = images_needed
