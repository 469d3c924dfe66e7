use Rattle.std.proofs.Common.{refl, sym, ap, ◌∙◌}
use Rattle.stages.specs.Before.{begun}
use Rattle.stages.proofs.DraftFacts.{adds_other, mapped_none}
use Rattle.stages.proofs.resolving.add.Goals as goal

pub returns-in-None : goal.returns-in-None
returns-in-None g c =
    adds_other _ _ c.args.draft c.args.instruction c.args.draft.names c.add_other.result (sym (ap begun c.kind.ensures.kind) ∙ mapped_none _ _ _ c.begun.ensures c.in-None.is) refl
    c.add_other.ensures
