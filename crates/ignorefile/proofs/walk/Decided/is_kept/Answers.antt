use Rattle.std.specs.Prelude.{◌↔◌, IsTrue}
use Rattle.std.proofs.Common.{subst}
use Rattle.ignorefile.specs.Kept.{Kept}
use Rattle.ignorefile.specs.Walk.{DecidedValue}
use Rattle.ignorefile.proofs.Deciding.{decided-kept}
use Rattle.ignorefile.proofs.walk.Decided.is_kept.Goals as goal

pub returns : goal.returns
returns c =
    let both = decided-kept _ _ _ c.self.invariant.1 in
    subst (λ (v : DecidedValue). IsTrue c.lets.result ↔ Kept v.lines v.path) c.self.view_is (λ h. both.0 (c.lets.ensures.0 h), λ k. c.lets.ensures.1 (both.1 k))
