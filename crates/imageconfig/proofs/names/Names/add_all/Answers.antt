use Rattle.imageconfig.proofs.RowFacts.{names-added}
use Rattle.imageconfig.proofs.names.Names.add_all.Goals as goal

pub returns-clause-ok : goal.returns-clause-ok
returns-clause-ok c = names-added c.set_all.result _ _ c.in_ok-rows.rows _ _ c.self.view_is c.in_ok-rows.ensures c.set_all.ensures.ok
