use Rattle.std.proofs.Common.{sym, ap, ◌∙◌}
use Rattle.std.specs.FinMap.{get}
use Rattle.std.specs.Option.{option_map}
use Rattle.stages.specs.Before.{declared_by}
use Rattle.stages.proofs.DraftFacts.{mapped_none}
use Rattle.stages.proofs.FaultsFacts.{outer_some_judged, outer_none_judged}
use Rattle.stages.proofs.faults.outer_reason.Goals as goal

pub returns-in-Some : goal.returns-in-Some
returns-in-Some c =
    outer_some_judged (get c.args.args.now) c.args.outer.now c.argument_reason.new.outer (declared_by c.args.kind.now) _ c.argument_reason.result
    (sym c.declared_by.ensures ∙ ap (λ o. option_map (λ arguments. arguments.now) o) c.in-Some.is) c.argument_reason.ensures

pub returns-in-None : goal.returns-in-None
returns-in-None c =
    outer_none_judged (get c.args.args.now) c.args.outer.now (declared_by c.args.kind.now) (mapped_none _ _ _ c.declared_by.ensures c.in-None.is)
