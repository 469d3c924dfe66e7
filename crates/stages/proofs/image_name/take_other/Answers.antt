use Rattle.std.proofs.Common.{sym, ◌∙◌}
use Rattle.std.specs.FinMap.{get}
use Rattle.stages.specs.Before.{declared_by}
use Rattle.stages.proofs.DraftFacts.{empty_is, filled_is}
use Rattle.stages.proofs.ImageFacts.{other_outer_goes, other_inner_goes}
use Rattle.stages.proofs.image_name.take_other.Goals as goal

pub returns-then-is_empty : goal.returns-then-is_empty
returns-then-is_empty c =
    other_outer_goes (get c.args.args.now) c.args.outer.now c.declare_outer.new.outer c.args.names.now (declared_by c.args.kind.now)
    c.declare_outer.result (empty_is c.args.names.now (sym c.is_empty.ensures ∙ c.if-is_empty.true)) c.declare_outer.ensures

pub returns-else-is_empty : goal.returns-else-is_empty
returns-else-is_empty c =
    other_inner_goes (get c.args.args.now) c.args.outer.now c.args.names.now (declared_by c.args.kind.now)
    (filled_is c.args.names.now (sym c.is_empty.ensures ∙ c.if-is_empty.false))
