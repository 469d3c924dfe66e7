use Rattle.std.proofs.Common.{sym, ◌∙◌}
use Rattle.std.proofs.lemmas.List.{nil_from_length}
use Rattle.evaluation.proofs.ImageFacts.{named_first, named_some, named_none, named_all, few_sources}
use Rattle.evaluation.proofs.sources.sources_of.Goals as goal

pub loop-name-init : goal.loop-name-init
loop-name-init c = named_first c.args.context c.args.images _ _ _ (c.into_iter-name-iterator.ensures.into_iter_gives.0 ∙ c.into_rows-name-items.ensures) c.new-sources.ensures

pub loop-name-preserved-then-has : goal.loop-name-preserved-then-has
loop-name-preserved-then-has c =
    named_some _ _ _ _ _ (c.in-Some.name, c.in-Some.image) _ c.loop-name.invariant c.in-Some.ensures.steps.0 _ (sym c.has.ensures ∙ c.if-has.true) c.in_ok-sources.ensures

pub loop-name-preserved : goal.loop-name-preserved
loop-name-preserved c =
    named_none _ _ _ _ _ (c.in-Some.name, c.in-Some.image) _ c.loop-name.invariant c.in-Some.ensures.steps.0 (sym c.has.ensures ∙ c.if-has.false)

pub returns-clause-sources : goal.returns-clause-sources
returns-clause-sources c = named_all _ _ _ _ _ c.loop-name.invariant (nil_from_length _ (sym c.loop-name.name-iterator.rest.ok.0 ∙ c.in-None.ensures.steps.0))

pub returns-clause-few : goal.returns-clause-few
returns-clause-few c = few_sources c.args.context c.args.images _ _ (named_all _ _ _ _ _ c.loop-name.invariant (nil_from_length _ (sym c.loop-name.name-iterator.rest.ok.0 ∙ c.in-None.ensures.steps.0)))
