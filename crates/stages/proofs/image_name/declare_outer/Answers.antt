use Rattle.std.proofs.Common.{sym, ap, ◌∙◌}
use Rattle.std.specs.FinMap.{get}
use Rattle.std.specs.Option.{option_map}
use Rattle.stages.specs.Before.{declared_by}
use Rattle.stages.proofs.DraftFacts.{mapped_none}
use Rattle.stages.proofs.ImageFacts.{outer_some_goes, outer_none_goes}
use Rattle.stages.proofs.image_name.declare_outer.Goals as goal

pub returns-in_ok-reason-in-Some : goal.returns-in_ok-reason-in-Some
returns-in_ok-reason-in-Some c =
    outer_some_goes (get c.args.args.now) c.args.outer.now c.argument_reason.new.outer (declared_by c.args.kind.now) _ _ _
    (sym c.declared_by.ensures ∙ ap (λ o. option_map (λ arguments. arguments.now) o) c.in-Some.is) c.in_ok-reason-in-Some.ensures c.is_none.ensures

pub returns-in-None : goal.returns-in-None
returns-in-None c =
    outer_none_goes (get c.args.args.now) c.args.outer.now (declared_by c.args.kind.now) (mapped_none _ _ _ c.declared_by.ensures c.in-None.is)
