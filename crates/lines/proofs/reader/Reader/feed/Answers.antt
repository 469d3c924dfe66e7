use Rattle.std.proofs.Common.{◌++◌, List, ℕ, subst}
use Rattle.std.specs.Prelude.{OnOk, OnErr}
use Rattle.lines.specs.Reader.{Holds}
use Rattle.lines.specs.declared.kept.Kept.{Kept}
use Rattle.lines.proofs.FeedLaws.{feed_holds}
use Rattle.lines.proofs.reader.Reader.feed.Goals as goal

pub invariant_of-self : goal.invariant_of-self
invariant_of-self c =
    let held = c.self.invariant in
    feed_holds c.feed.result c.self.inside.kept c.feed.new.self held.0 c.args.piece.now held.1 c.feed.ensures.ok c.feed.ensures.err

pub returns-clause-ok : goal.returns-clause-ok
returns-clause-ok c =
    subst (λ (kept : Kept). OnOk c.feed.result ((text : List ℕ) → Holds kept text → Holds c.feed.new.self (text ++ c.args.piece.now))) c.self.view_is c.feed.ensures.ok

pub returns-clause-err : goal.returns-clause-err
returns-clause-err c = subst (λ (kept : Kept). OnErr c.feed.result ((text : List ℕ) → Holds kept text → Holds c.feed.new.self text)) c.self.view_is c.feed.ensures.err
