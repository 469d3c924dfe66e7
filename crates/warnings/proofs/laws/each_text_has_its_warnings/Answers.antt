use Rattle.warnings.proofs.WarningFacts.{warned, warned_once}
use Rattle.warnings.proofs.laws.each_text_has_its_warnings.Goals as goal

pub returns : goal.returns
returns c = record {
  exists = λ args text. warned args text (c.texts_are_read_or_refused.ensures text);
  unique = warned_once c.answers_are_unique.ensures.instructions c.answers_are_unique.ensures.apart;
}
