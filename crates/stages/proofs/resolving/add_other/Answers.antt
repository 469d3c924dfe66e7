use Rattle.std.proofs.Common.{sym, ◌∙◌}
use Rattle.stages.proofs.DraftFacts.{other_outer, other_inner, empty_is, filled_is}
use Rattle.stages.proofs.resolving.add_other.Goals as goal

pub returns-then-is_empty : goal.returns-then-is_empty
returns-then-is_empty g c =
    other_outer _ _ c.args.draft c.args.instruction c.kind.result.now c.declare-declared.result c.kind.ensures.kind (empty_is c.args.draft.names (sym c.is_empty.ensures ∙ c.if-is_empty.true))
    c.declare-declared.ensures

pub returns-else-is_empty : goal.returns-else-is_empty
returns-else-is_empty g c =
    other_inner _ _ c.args.draft c.args.instruction c.extend.result (filled_is c.args.draft.names (sym c.is_empty.ensures ∙ c.if-is_empty.false))
    c.extend.ensures
