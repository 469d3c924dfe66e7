use Rattle.stubs.proofs.StubFacts.{stubbed_made}
use Rattle.stubs.proofs.stubbing.with_stubs.Goals as goal

pub returns-in-Ok-put_all : goal.returns-in-Ok-put_all
returns-in-Ok-put_all c =
    stubbed_made c.args.images c.args.names c.in-Ok.rows.entries c.put_all.new.rows.entries c.images_of.result c.in-Ok.ensures c.in-Ok-put_all.ensures c.images_of.ensures
