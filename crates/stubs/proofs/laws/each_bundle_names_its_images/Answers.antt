use Rattle.stubs.proofs.NameFacts.{some_names, one_names, some_missing, one_missing}
use Rattle.stubs.proofs.laws.each_bundle_names_its_images.Goals as goal

pub returns-clause-named : goal.returns-clause-named
returns-clause-named c = some_names c.texts_are_read_or_refused.ensures

pub returns-clause-one : goal.returns-clause-one
returns-clause-one c = one_names c.answers_are_unique.ensures.instructions c.answers_are_unique.ensures.apart

pub returns-clause-missing : goal.returns-clause-missing
returns-clause-missing c = some_missing c.texts_are_read_or_refused.ensures

pub returns-clause-unique : goal.returns-clause-unique
returns-clause-unique c = one_missing c.answers_are_unique.ensures.instructions c.answers_are_unique.ensures.apart
