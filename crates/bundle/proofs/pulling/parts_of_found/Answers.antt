use Rattle.std.proofs.Common.{Some, sym, ap, ap₂, ◌∙◌}
use Rattle.bundle.specs.Parts.{files_at, named_at}
use Rattle.bundle.proofs.FoundFacts.{parts_are, lent_is_owned}
use Rattle.bundle.proofs.pulling.parts_of_found.Goals as goal

pub returns-in-Ok-named_of : goal.returns-in-Ok-named_of
returns-in-Ok-named_of g c ms h =
    let reading = g.C.FromLentKeyed.reading in
    let found = c.args.found.now in
    let dockerfile = lent_is_owned c.as_ref.result found.dockerfile c.as_ref.ensures.value in
    let target = lent_is_owned c.as_ref-2.result found.target c.as_ref-2.ensures.value in
    let args = lent_is_owned c.as_ref-in-Ok.result found.args c.as_ref-in-Ok.ensures.value in
    parts_are reading found ms c.in-Ok.files c.in-Ok-named_of.named h
    (λ listed are. ap₂ (λ x t. files_at x listed t) (sym dockerfile) (sym target) ∙ c.in-Ok.ensures listed (are ∙ ap Some (sym c.take-context.ensures.value)))
    (λ i o images caches. ap (λ a. named_at reading i a o) (sym args) ∙ c.in-Ok-named_of.ensures reading i o (images ∙ ap Some (sym c.take-images.ensures.value)) (caches ∙ ap Some (sym c.take-caches.ensures.value)))
