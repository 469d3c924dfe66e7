use Rattle.std.proofs.Common.{◌≡◌, ◌∙◌, IfOk, map, subst}
use Rattle.expand.specs.Reasons.{rejection_of}
use Rattle.checks.proofs.CheckFacts.{text_faulty, text_sound}
use Rattle.checks.proofs.checking.check_file.Goals as goal

pub returns-in-Ok : goal.returns-in-Ok
returns-in-Ok c = text_sound c.args.bundle c.as_slice.result.now c.in-Ok.file c.check_stages.result c.as_slice.ensures c.in-Ok.ensures c.check_stages.ensures

pub returns-in-Err-Because : goal.returns-in-Err-Because
returns-in-Err-Because c =
    text_faulty c.args.bundle c.as_slice.result.now c.in-Err-Because.field-0 c.in-Err-Because.refusals c.rejections.result c.as_slice.ensures c.in-Err-Because.field-0-is
    c.in-Err-Because.ensures
    (subst (λ refusals. IfOk c.rejections.result (λ faults. faults ≡ map rejection_of refusals)) (c.as_slice-in-Err-Because.ensures ∙ c.in-Err-Because.refusals-is) c.rejections.ensures)
