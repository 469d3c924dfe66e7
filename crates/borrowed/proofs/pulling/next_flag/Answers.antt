use Rattle.std.proofs.Common.{ap, ◌∙◌, ◌∷◌}
use Rattle.json.specs.Reads.{token_of}
use Rattle.borrowed.proofs.PulledFacts.{flag_is_next}
use Rattle.borrowed.proofs.pulling.next_flag.Goals as goal

pub returns-in-Some-Bool : goal.returns-in-Some-Bool
returns-in-Some-Bool c depth = flag_is_next depth c.args.reader.now c.next.new.self c.in-Some-Bool.flag (c.in-Some-Bool.ensures.value ∙ ap (λ t. token_of t ∷ c.next.new.self) c.in-Some-Bool.field-0-is)
