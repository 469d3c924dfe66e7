use Rattle.std.proofs.Common.{[], sym, subst}
use Rattle.std.specs.Prelude.{MatchBool}
use Rattle.lines.specs.Ready.{AreReady}
use Rattle.lines.proofs.ReaderLaws.{ready_known}
use Rattle.lines.proofs.kept.Kept.ready.Goals as goal

pub returns-then-self : goal.returns-then-self
returns-then-self c =
    let kept = c.args.self.now in
    λ text h. subst (λ b. MatchBool b (AreReady text []) (AreReady text kept.lines.items)) c.if-self.true (ready_known kept.known kept text h)

pub returns : goal.returns
returns c =
    let kept = c.args.self.now in
    λ text h.
    subst (AreReady text) (sym c.as_slice.ensures.value)
    (subst (λ b. MatchBool b (AreReady text []) (AreReady text kept.lines.items)) c.if-self.false (ready_known kept.known kept text h))
