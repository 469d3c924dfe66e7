use Rattle.instructions.proofs.SpellsLaws.{spelled_or_refused, never_both}
use Rattle.instructions.proofs.laws.lines_are_spelled_or_refused.Goals as goal

pub returns : goal.returns
returns c = record { either = spelled_or_refused; never_both = never_both }
