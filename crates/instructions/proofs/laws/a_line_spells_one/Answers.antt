use Rattle.instructions.proofs.SpellsLaws.{spelled_once}
use Rattle.instructions.proofs.laws.a_line_spells_one.Goals as goal

pub returns : goal.returns
returns c = spelled_once
