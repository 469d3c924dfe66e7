use Rattle.packing.proofs.EndFacts.{found_text}
use Rattle.packing.proofs.packing.text_of.Goals as goal

pub returns-in-Ok-Some-clause-text : goal.returns-in-Ok-Some-clause-text
returns-in-Ok-Some-clause-text c =
    found_text _ c.args.found c.in-Ok-Some.text c.requires (rw c.in-Ok-Some.field-0-is at c.in-Ok-Some.ensures.is) (rw c.in-Ok-Some.field-0-is at c.in-Ok-Some.ensures.reads)
