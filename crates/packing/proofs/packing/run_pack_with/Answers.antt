use Rattle.packing.proofs.EndFacts.{none_found, packed_found}
use Rattle.packing.proofs.packing.run_pack_with.Goals as goal

pub returns-in-Ok-Some : goal.returns-in-Ok-Some
returns-in-Ok-Some g c = packed_found _ c.in-Ok-Some.text _ _ _ _ _ (rw c.in-Ok-Some.field-0-is at c.in-Ok-Some.ensures) c.write_text.ensures

pub returns-in-Ok-None : goal.returns-in-Ok-None
returns-in-Ok-None g c = none_found _ _ _
