use Rattle.std.proofs.Common.{◌∙◌, sym, refl, arith}
use Rattle.globs.proofs.Cuts.{same-next, same-tail}
use Rattle.globs.proofs.cut.from_last_run.Goals as goal

pub loop-index-init : goal.loop-index-init
loop-index-init g c = λ items. ((λ r. r), (λ r. r))

pub returns-then-not-takes_any-clause-same : goal.returns-then-not-takes_any-clause-same
returns-then-not-takes_any-clause-same g c = same-tail _ _ _ _ _ refl c.loop-index.invariant

pub loop-index-preserved : goal.loop-index-preserved
loop-index-preserved g c =
    same-next _ _ _ _ _ _ (omega arith) (omega arith) c.index-parts-index.is c.index-parts-index-else-not-takes_any.is (sym c.takes_any.ensures ∙ c.if-not-takes_any.false) (sym c.takes_any-else-not-takes_any.ensures ∙ c.if-not-takes_any-2.false)
    c.loop-index.invariant

pub returns-after-loop-index-clause-same : goal.returns-after-loop-index-clause-same
returns-after-loop-index-clause-same g c = same-tail _ _ _ _ _ (omega (arith, c.in-len1-up.len_at_least)) c.loop-index.invariant
