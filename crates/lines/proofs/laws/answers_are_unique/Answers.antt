use Rattle.lines.proofs.TextLaws.{lines_same, refusal_same, never_both}
use Rattle.lines.proofs.laws.answers_are_unique.Goals as goal

pub returns : goal.returns
returns c = record { lines = lines_same; refusals = refusal_same; apart = never_both }
