use Rattle.std.proofs.Common.{◌∙◌, sym, true≢false}
use Rattle.globs.proofs.Cuts.{found-no, on-back, on-back-empty}
use Rattle.globs.proofs.part.+name_can_be_cut.Goals as goal

pub returns-in_default : goal.returns-in_default
returns-in_default t c = (λ h. absurd (true≢false (sym h)), λ r. absurd (found-no _ _ _ _ _ c.search.ensures c.in_default.not-Yes r))

pub returns-in-None : goal.returns-in-None
returns-in-None t c = (λ h. absurd (true≢false (sym h)), λ r. absurd (on-back-empty _ _ _ _ _ c.in-len1-up.len_at_least c.last-item.is (sym c.takes_any.ensures ∙ c.if-takes_any.false) c.in-None.ensures r))

pub returns-then-holds : goal.returns-then-holds
returns-then-holds t c =
    let both = on-back _ _ _ _ _ _ _ c.in-len1-up.len_at_least c.last-item.is c.in-Some.ensures (sym c.takes_any.ensures ∙ c.if-takes_any.false) in
    (λ h. both.1 (sym c.holds.ensures ∙ c.if-holds.true, c.name_can_be_cut.ensures.0 h), λ r. c.name_can_be_cut.ensures.1 (both.0 r).1)

pub returns-else-holds : goal.returns-else-holds
returns-else-holds t c =
    let both = on-back _ _ _ _ _ _ _ c.in-len1-up.len_at_least c.last-item.is c.in-Some.ensures (sym c.takes_any.ensures ∙ c.if-takes_any.false) in
    (λ h. absurd (true≢false (sym h ∙ c.if-holds.false)), λ r. c.holds.ensures ∙ (both.0 r).0)
