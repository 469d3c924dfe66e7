use Rattle.std.proofs.Common.{Some, sym, ap, ◌∙◌}
use Rattle.borrowed.proofs.PulledFacts.{what_it_gives}
use Rattle.bundle.proofs.FoundFacts.{images_are, no_images_are}
use Rattle.bundle.proofs.pulling.images_or_none.Goals as goal

pub returns-in-Some : goal.returns-in-Some
returns-in-Some g c = what_it_gives c.images_with.result _ _ c.images_with.ensures (λ read is config o are. images_are config c.in-Some.rows read o is (are ∙ ap Some c.in-Some.is))

pub returns-in-None : goal.returns-in-None
returns-in-None g c config o are = no_images_are config o (are ∙ ap Some c.in-None.is) ∙ ap Some (sym c.no_images.ensures)
