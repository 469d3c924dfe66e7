use Rattle.std.proofs.Common.{ap, ◌∙◌, ◌∷◌}
use Rattle.json.specs.Reads.{token_of}
use Rattle.borrowed.proofs.PulledFacts.{text_is_next}
use Rattle.borrowed.proofs.pulling.next_text.Goals as goal

pub returns-in-Some-String : goal.returns-in-Some-String
returns-in-Some-String c depth = text_is_next depth c.args.reader.now c.next.new.self c.in-Some-String.text.now (c.in-Some-String.ensures.value ∙ ap (λ t. token_of t ∷ c.next.new.self) c.in-Some-String.field-0-is)
