use Rattle.dockerfile.proofs.FaultsFacts.{free_spells, spells_free}
use Rattle.dockerfile.proofs.laws.a_line_without_refusal_spells.Goals as goal

pub returns : goal.returns
returns c = record { free = free_spells c.lines_are_spelled_or_refused.ensures.either; spells = spells_free }
