use Rattle.std.proofs.Common.{◌≡◌, IfOk, subst}
use Rattle.counted.specs.Edges.{line_of}
use Rattle.bundle.specs.Answer.{refused_text}
use Rattle.program.proofs.WhyFacts.{refusal_told}
use Rattle.program.proofs.why.tell_paths.Goals as goal

pub returns-in-Err-Because : goal.returns-in-Err-Because
returns-in-Err-Because g c =
    refusal_told c.args.paths.now c.args.bundle.now c.in-Err-Because.field-0 c.in-Err-Because.refusal c.tell_refusal.result c.in-Err-Because.field-0-is c.in-Err-Because.ensures
    c.tell_refusal.ensures.status
    (subst (λ r. IfOk c.tell_refusal.result (λ told. told.text ≡ line_of (refused_text r))) c.of.ensures c.tell_refusal.ensures.text)
