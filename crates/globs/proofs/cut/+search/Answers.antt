use Rattle.std.proofs.Common.{◌∙◌, sym, refl}
use Rattle.globs.proofs.Cuts.{at-never, at-runs, at-run-empty, at-run-step, at-one-step}
use Rattle.globs.proofs.cut.+search.Goals as goal

pub returns-in-Never : goal.returns-in-Never
returns-in-Never g t c = at-never _ _ _ _ _ c.in-len1-up.len_at_least c.part-item.is c.in-Never.ensures

pub returns-in-len1-up : goal.returns-in-len1-up
returns-in-len1-up g t c =
    at-runs _ _ _ _ _ _ _ _ _ c.in-len1-up.len_at_least c.part-item.is refl c.in-len1-up-rest.len_at_least c.next-item.is (sym c.takes_any.ensures ∙ c.if-not-takes_any.false)
    (sym c.takes_any-in-len1-up.ensures ∙ c.if-takes_any.true) c.from_last_run.ensures.same c.search-in-len1-up.ensures

pub returns-in-empty-items-2 : goal.returns-in-empty-items-2
returns-in-empty-items-2 g t c = at-run-empty _ _ _ _ _ c.in-len1-up.len_at_least c.part-item.is c.in-empty-items-2.len_below c.in-No.ensures

pub returns-in-len1-up-items-2 : goal.returns-in-len1-up-items-2
returns-in-len1-up-items-2 g t c =
    at-run-step _ _ _ _ _ _ c.in-len1-up.len_at_least c.part-item.is c.in-len1-up-items-2.len_at_least (sym c.takes_any.ensures ∙ c.if-not-takes_any.false) c.in-No.ensures c.search-in-len1-up-items-2.ensures

pub returns-then-holds : goal.returns-then-holds
returns-then-holds g t c =
    at-one-step _ _ _ _ _ _ _ c.in-len1-up.len_at_least c.part-item.is c.in-len1-up-items.len_at_least c.item-item.is (sym c.takes_any.ensures ∙ c.if-not-takes_any.true) (sym c.holds.ensures ∙ c.if-holds.true)
    c.search.ensures
