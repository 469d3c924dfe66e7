use Rattle.std.proofs.Common.{Ok}
use Rattle.bundle.specs.Answer.{refused_text}
use Rattle.memo.proofs.GrowLemmas.{grows-same}
use Rattle.answering.specs.declared.status.Status.TheVariants.{Refused}
use Rattle.answering.specs.Told.{TellsText}
use Rattle.build.specs.PrivateTelling.{TellsAsked, TellsBundle}
use Rattle.answering.proofs.TellFacts.{told_of}
use Rattle.build.proofs.TellFacts.{bundle_told, refusal_told}
use Rattle.build.proofs.telling.tell_bundle.Goals as goal

pub returns-in-Ok-clause-told : goal.returns-in-Ok-clause-told
returns-in-Ok-clause-told g c =
    let out = g.E.Executor.out c.args.executor.now in
    told_of (TellsAsked out (Ok c.in-Ok.asked.evaluated)) (TellsBundle c.args.bytes.items out) (λ told is. bundle_told c.args.bytes.items out (Ok c.in-Ok.asked.evaluated) told c.in-Ok.ensures.asked is)
    _ _ _ _ c.tell_asked.result c.tell_asked.ensures.told

pub returns-in-Err-Because-clause-told : goal.returns-in-Err-Because-clause-told
returns-in-Err-Because-clause-told g c =
    let out = g.E.Executor.out c.args.executor.now in
    told_of (TellsText Refused (refused_text c.in-Err-Because.refusal)) (TellsBundle c.args.bytes.items out)
    (λ told is. refusal_told c.args.bytes.items out c.in-Err-Because.refusal told (rw c.in-Err-Because.field-0-is at c.in-Err-Because.ensures.asked) is)
    _ _ _ _ c.tell_refusal.result c.tell_refusal.ensures

-- nothing is built
pub returns-in-Err-Because-clause-memo : goal.returns-in-Err-Because-clause-memo
returns-in-Err-Because-clause-memo g c = grows-same c.args.memo.now

pub returns-in-Err-Memory-clause-memo : goal.returns-in-Err-Memory-clause-memo
returns-in-Err-Memory-clause-memo g c = grows-same c.args.memo.now
