use Rattle.std.proofs.Common.{ap, ◌∙◌}
use Rattle.imageconfig.specs.PrivateRows.{of_names}
use Rattle.imageconfig.proofs.SameFacts.{names-told}
use Rattle.imageconfig.proofs.names.are_names_same.Goals as goal

pub returns : goal.returns
returns c =
    names-told (of_names c.args.these.now) (of_names c.args.those.now) c.as_slice-2.result.now c.as_slice-4.result.now c.eq.result
    (c.as_slice-2.ensures ∙ c.keys.ensures.rest ∙ ap of_names c.as_slice.ensures)
    (c.as_slice-4.ensures ∙ c.keys-2.ensures.rest ∙ ap of_names c.as_slice-3.ensures)
    c.eq.ensures
