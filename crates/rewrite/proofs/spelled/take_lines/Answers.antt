use Rattle.std.proofs.Common.{◌∙◌, Some, ap, refl, arith}
use Rattle.std.proofs.lemmas.Option.{slice_get_read}
use Rattle.rewrite.proofs.SpelledFacts.{takes_done, takes_first, takes_next}
use Rattle.rewrite.proofs.spelled.take_lines.Goals as goal

pub loop-one-init : goal.loop-one-init
loop-one-init c = takes_first c.args.graph c.args.names.now c.args.spelled.now _ c.vertices-known.ensures.graph.beside refl

pub take_some-requires-clause-named : goal.take_some-requires-clause-named
take_some-requires-clause-named c = λ is same.
    c.requires.named c.loop-one.one-index is (slice_get_read c.args.spelled.now _ c.loop-one.one-index c.one-item.result refl c.loop-one-test.true c.one-item.is ∙ ap Some same)

pub take_some-requires-clause-lines : goal.take_some-requires-clause-lines
take_some-requires-clause-lines c = λ is same.
    c.requires.lines c.loop-one.one-index is (slice_get_read c.args.spelled.now _ c.loop-one.one-index c.one-item.result refl c.loop-one-test.true c.one-item.is ∙ ap Some same)

pub loop-one-preserved : goal.loop-one-preserved
loop-one-preserved c =
    takes_next c.args.graph c.loop-one.graph c.take_some.new.graph c.args.names.now c.args.spelled.now c.loop-one.one-index c.one-item.result c.loop-one.invariant
    (slice_get_read c.args.spelled.now _ c.loop-one.one-index c.one-item.result refl c.loop-one-test.true c.one-item.is) c.in_ok-take_some.ensures

pub returns : goal.returns
returns c = takes_done c.args.graph c.loop-one.graph c.args.names.now c.args.spelled.now c.loop-one.one-index (omega (arith, c.loop-one-test.false)) c.loop-one.invariant
