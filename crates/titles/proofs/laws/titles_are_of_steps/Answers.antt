use Rattle.titles.proofs.TitledFacts.{titles_at, titles_other, steps_counted}
use Rattle.titles.proofs.laws.titles_are_of_steps.Goals as goal

pub returns : goal.returns
returns c = record { steps = titles_at; counted = steps_counted; others = titles_other }
