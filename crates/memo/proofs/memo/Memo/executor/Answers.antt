use Rattle.std.proofs.Common.{subst}
use Rattle.memo.specs.Memo.{AreLawful}
use Rattle.memo.proofs.memo.Memo.executor.Goals as goal

pub returns-clause-recent : goal.returns-clause-recent
returns-clause-recent g c = subst (λ m. AreLawful (g.E.Executor.out m.executor) m.recent.entries) c.self.view_is c.self.invariant.0

pub returns-clause-earlier : goal.returns-clause-earlier
returns-clause-earlier g c = subst (λ m. AreLawful (g.E.Executor.out m.executor) m.earlier.entries) c.self.view_is c.self.invariant.1
