use Rattle.std.proofs.Common.{sym, ◌∙◌}
use Rattle.stages.proofs.NamingFacts.{meets_all, meets_none}
use Rattle.stages.proofs.naming.origins_of.Goals as goal

pub returns-in-Some : goal.returns-in-Some
returns-in-Some g c = meets_all _ _ c.args.kind.now c.in-Some.origins (sym c.in_ok-origins.ensures ∙ c.in-Some.is)

pub returns-in-None : goal.returns-in-None
returns-in-None g c = meets_none _ _ c.args.kind.now (sym c.in_ok-origins.ensures ∙ c.in-None.is)
