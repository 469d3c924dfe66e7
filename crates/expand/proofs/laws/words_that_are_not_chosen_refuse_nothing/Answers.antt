use Rattle.expand.proofs.ValueLaws.{refusal-own, refusal-nothing, refusal-word}
use Rattle.expand.proofs.laws.words_that_are_not_chosen_refuse_nothing.Goals as goal

pub returns-clause-own : goal.returns-clause-own
returns-clause-own c = refusal-own

pub returns-clause-nothing : goal.returns-clause-nothing
returns-clause-nothing c = refusal-nothing

pub returns-clause-chosen : goal.returns-clause-chosen
returns-clause-chosen c = refusal-word
