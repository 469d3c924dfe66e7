use Rattle.std.proofs.Common.{◌∙◌, sym, refl}
use Rattle.globs.proofs.Cuts.{at-never, at-runs, at-run-here, at-run-last, on-run-empty, on-run-step, on-one-step}
use Rattle.globs.proofs.part.+search.Goals as goal

pub returns-in-empty-rest : goal.returns-in-empty-rest
returns-in-empty-rest t c = at-run-last _ _ _ _ _ c.in-len1-up.len_at_least c.part-item.is (sym c.takes_any.ensures ∙ c.if-not-takes_any.false) c.in-empty-rest.len_below

pub returns-then-takes_any : goal.returns-then-takes_any
returns-then-takes_any t c =
    at-runs _ _ _ _ _ _ _ _ _ c.in-len1-up.len_at_least c.part-item.is refl c.in-len1-up-rest.len_at_least c.next-item.is (sym c.takes_any.ensures ∙ c.if-not-takes_any.false)
    (sym c.takes_any-in-len1-up-rest.ensures ∙ c.if-takes_any.true) c.from_last_run.ensures.same c.search-then-takes_any.ensures

pub returns-in-Yes : goal.returns-in-Yes
returns-in-Yes t c = at-run-here _ _ _ _ _ c.in-len1-up.len_at_least c.part-item.is (sym c.takes_any.ensures ∙ c.if-not-takes_any.false) c.in-Yes.ensures

pub returns-in-Never : goal.returns-in-Never
returns-in-Never t c = at-never _ _ _ _ _ c.in-len1-up.len_at_least c.part-item.is c.in-Never.ensures

pub returns-in-None-first_and_rest-2 : goal.returns-in-None-first_and_rest-2
returns-in-None-first_and_rest-2 t c = on-run-empty _ _ _ _ _ c.in-len1-up.len_at_least c.part-item.is c.in-None-first_and_rest-2.ensures c.in-No.ensures

pub returns-in-Some-first_and_rest-2 : goal.returns-in-Some-first_and_rest-2
returns-in-Some-first_and_rest-2 t c =
    on-run-step _ _ _ _ _ _ _ _ c.in-len1-up.len_at_least c.part-item.is c.in-Some-first_and_rest-2.ensures (sym c.takes_any.ensures ∙ c.if-not-takes_any.false) c.in-No.ensures c.search-in-Some-first_and_rest-2.ensures

pub returns-then-holds : goal.returns-then-holds
returns-then-holds t c =
    on-one-step _ _ _ _ _ _ _ _ c.in-len1-up.len_at_least c.part-item.is c.in-Some-first_and_rest.ensures (sym c.takes_any.ensures ∙ c.if-not-takes_any.true) (sym c.holds.ensures ∙ c.if-holds.true) c.search.ensures
