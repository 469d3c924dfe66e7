use Rattle.std.proofs.Common.{subst}
use Rattle.std.specs.Prelude.{IfOk}
use Rattle.program.specs.Dot.{IsPictureOf}
use Rattle.program.proofs.DotFacts.{picture_told, refusal_told}
use Rattle.program.proofs.picturing.tell_dot.Goals as goal

pub returns-in-Ok : goal.returns-in-Ok
returns-in-Ok g c =
    picture_told c.args.bundle.now c.in-Ok.titled.asked.evaluated c.in-Ok.titled.titles c.tell_picture.result c.in-Ok.ensures.asked c.in-Ok.ensures.titles
    c.tell_picture.ensures.status
    (subst (λ titles. IfOk c.tell_picture.result (λ told. IsPictureOf c.in-Ok.titled.asked.evaluated titles told.text)) c.as_slice.ensures c.tell_picture.ensures.text)

pub returns-in-Err-Because : goal.returns-in-Err-Because
returns-in-Err-Because g c =
    refusal_told c.args.bundle.now c.in-Err-Because.field-0 c.in-Err-Because.refusal c.tell_refusal.result c.in-Err-Because.field-0-is c.in-Err-Because.ensures.asked
    c.tell_refusal.ensures.status c.tell_refusal.ensures.text
