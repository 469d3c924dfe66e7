use Rattle.std.proofs.Common.{ap, ◌∙◌}
use Rattle.serde_json.specs.Written.{has_float}
use Rattle.exported.proofs.ExcludingFacts.{list_plain}
use Rattle.exported.proofs.excluding.list_of.Goals as goal

pub returns-clause-texts : goal.returns-clause-texts
returns-clause-texts c = ap has_float c.in_ok-list.ensures.data ∙ list_plain c.args.patterns.now
