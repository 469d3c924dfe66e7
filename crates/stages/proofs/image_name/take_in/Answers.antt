use Rattle.std.proofs.Common.{sym, ap, ◌∙◌}
use Rattle.std.specs.FinMap.{get}
use Rattle.std.specs.Option.{option_map}
use Rattle.stages.proofs.DraftFacts.{mapped_none}
use Rattle.stages.proofs.ImageFacts.{begun_goes, other_goes}
use Rattle.stages.proofs.image_name.take_in.Goals as goal

pub returns-in_ok-push_name-in-Some-clause-goes : goal.returns-in_ok-push_name-in-Some-clause-goes
returns-in_ok-push_name-in-Some-clause-goes c =
    begun_goes (get c.args.args.now) c.args.outer.now c.args.names.now c.args.kind.now _
    (sym c.begun.ensures ∙ ap (λ o. option_map (λ stage. (stage.0.now, stage.1.now)) o) c.in-Some.is)

pub returns-in-None-clause-goes : goal.returns-in-None-clause-goes
returns-in-None-clause-goes c =
    other_goes (get c.args.args.now) c.args.outer.now c.take_other.new.outer c.args.names.now c.as_slice.result.now c.args.kind.now
    c.take_other.result (mapped_none _ _ _ c.begun.ensures c.in-None.is) c.as_slice.ensures c.take_other.ensures
