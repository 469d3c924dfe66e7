use Rattle.stages.proofs.MarkFacts.{needed_target, needed_named, needed_least}
use Rattle.stages.proofs.laws.the_least_stages_are_needed.Goals as goal

pub returns : goal.returns
returns c = record { target = needed_target; named = needed_named; least = needed_least }
