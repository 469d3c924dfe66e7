use Rattle.std.proofs.Common.{sym, ap, ◌∙◌}
use Rattle.std.specs.FinMap.{get}
use Rattle.std.specs.Option.{option_map}
use Rattle.stages.proofs.DraftFacts.{mapped_none, outer_some, outer_none}
use Rattle.stages.proofs.resolving.declare.Goals as goal

pub returns-in-Some : goal.returns-in-Some
returns-in-Some c =
    outer_some (get c.args.args.now) c.args.draft c.args.kind.now _ c.declare_arguments.result
    (sym c.declared_by.ensures ∙ ap (λ o. option_map (λ arguments. arguments.now) o) c.in-Some.is) c.declare_arguments.ensures

pub returns-in-None : goal.returns-in-None
returns-in-None c = outer_none (get c.args.args.now) c.args.draft c.args.kind.now (mapped_none _ _ _ c.declared_by.ensures c.in-None.is)
