use Rattle.borrowed.specs.Seen.{data_of}
use Rattle.packing.proofs.ImageFacts.{named_result}
use Rattle.packing.proofs.layout.named_by_text.Goals as goal

pub returns-in-Ok-clause-digest : goal.returns-in-Ok-clause-digest
returns-in-Ok-clause-digest c = named_result (data_of c.in-Ok.value) c.named_by-named.result c.named_by-named.ensures.named
