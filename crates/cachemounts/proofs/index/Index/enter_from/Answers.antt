use Rattle.std.proofs.Common.{subst, sym, arith}
use Rattle.std.specs.List.{Contains}
use Rattle.std.proofs.lemmas.Option.{slice_get_within}
use Rattle.cachemounts.specs.declared.content.Content.{Content}
use Rattle.cachemounts.specs.PrivateIndex.{under}
use Rattle.cachemounts.proofs.ContentLemmas.{get-there}
use Rattle.cachemounts.proofs.IndexLemmas.{entered-more}
use Rattle.cachemounts.proofs.index.Index.enter_from.Goals as goal

pub loop-at-init : goal.loop-at-init
loop-at-init c = record { grows = λ id place h. h; entered = λ k content above l e. absurd (omega (arith, above, l)) }

pub loop-at-preserved : goal.loop-at-preserved
loop-at-preserved c =
    let there = get-there c.args.contents.now c.loop-at.at c.index-contents-at.result (omega (arith, c.loop-at-test.true)) c.index-contents-at.is in
    let entered = subst (λ (content : Content). Contains (under c.enter.new.places.entries content.id) c.loop-at.at) (sym c.index-contents-at.is) c.in_ok-enter.ensures.entered in
    record {
      grows = λ id place h. c.in_ok-enter.ensures.grows id place (c.loop-at.invariant.grows id place h);
      entered = entered-more c.args.contents.now c.args.from c.loop-at.at _ _ c.index-contents-at.result c.loop-at.invariant.entered c.in_ok-enter.ensures.grows there entered;
    }

pub returns-in_err-enter-clause-grows : goal.returns-in_err-enter-clause-grows
returns-in_err-enter-clause-grows c = λ id place h. c.enter.ensures.grows id place (c.loop-at.invariant.grows id place h)

pub returns-clause-entered : goal.returns-clause-entered
returns-clause-entered c = record {
  entered = λ k content above e.
      let within = slice_get_within c.args.contents.now k content e in
      c.loop-at.invariant.entered k content above (omega (arith, within, c.loop-at-test.false)) e;
}
