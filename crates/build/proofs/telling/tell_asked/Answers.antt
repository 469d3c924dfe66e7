use Rattle.std.proofs.Common.{Ok}
use Rattle.memo.proofs.GrowLemmas.{grows-same}
use Rattle.build.specs.PrivateTelling.{TellsPlan, TellsAsked}
use Rattle.answering.proofs.TellFacts.{told_of}
use Rattle.build.proofs.TellFacts.{asked_told}
use Rattle.build.proofs.telling.tell_asked.Goals as goal

pub returns-in-Ok-clause-told : goal.returns-in-Ok-clause-told
returns-in-Ok-clause-told g c =
    let out = g.E.Executor.out c.args.executor.now in
    told_of (TellsPlan out c.in-Ok.plan) (TellsAsked out (Ok c.args.asked.evaluated))
    (λ told is. asked_told out c.args.asked.evaluated c.in-Ok.plan told (c.in-Ok.ensures.tells out) is) _ _ _ _ c.tell_plan-ended.result c.tell_plan-ended.ensures.told

-- nothing is built
pub returns-in-Err-clause-memo : goal.returns-in-Err-clause-memo
returns-in-Err-clause-memo g c = grows-same c.args.memo.now
