use Rattle.std.proofs.Common.{sym, subst, ◌∙◌, ◌≤◌, List, length}
use Rattle.ignorefile.specs.declared.line.Line.{Line}
use Rattle.ignorefile.specs.PrivateRanks.{Lets}
use Rattle.ignorefile.proofs.Deciding.{decided-within, decided-kept}
use Rattle.ignorefile.proofs.ignore.Ignore.keeps.Goals as goal

pub lets-requires : goal.lets-requires
lets-requires c = subst (λ (l : List Line). c.rank.result ≤ length l) (sym (c.as_slice.ensures ∙ c.self.view_is)) (decided-within _ _ _ c.rank.ensures)

pub returns : goal.returns
returns c =
    let is = c.as_slice.ensures ∙ c.self.view_is in
    let both = decided-kept _ _ _ c.rank.ensures in
    (λ h. both.0 (subst (λ (l : List Line). Lets l c.rank.result) is (c.lets.ensures.0 h)), λ k. c.lets.ensures.1 (subst (λ (l : List Line). Lets l c.rank.result) (sym is) (both.1 k)))
