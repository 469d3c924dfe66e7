use Rattle.stubs.proofs.StubFacts.{some_stubbed, one_stubbed}
use Rattle.stubs.proofs.laws.each_bundle_has_its_stubs.Goals as goal

pub returns-clause-exists : goal.returns-clause-exists
returns-clause-exists c = some_stubbed c.each_bundle_names_its_images.ensures.named

pub returns-clause-unique : goal.returns-clause-unique
returns-clause-unique c = one_stubbed c.each_bundle_names_its_images.ensures.one
