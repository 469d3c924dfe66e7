use Rattle.program.proofs.LlbFacts.{file_told, refusal_told}
use Rattle.program.proofs.exporting.tell_llb.Goals as goal

pub returns-in-Ok : goal.returns-in-Ok
returns-in-Ok g c =
    let titled = c.in-Ok.titled in
    file_told c.args.options.now c.args.bundle.now titled.asked.evaluated (record { titles = titled.titles; left = titled.left_out; digests = titled.digests }) c.tell_file.result c.in-Ok.ensures.asked
    (record { titles = c.in-Ok.ensures.titles; left = c.in-Ok.ensures.left_out; digests = c.in-Ok.ensures.digests }) c.tell_file.ensures

pub returns-in_ok-tell_refusal-in-Err-Because : goal.returns-in_ok-tell_refusal-in-Err-Because
returns-in_ok-tell_refusal-in-Err-Because g c =
    refusal_told c.args.options.now c.args.bundle.now c.in-Err-Because.field-0 c.in-Err-Because.refusal _ c.in-Err-Because.field-0-is c.in-Err-Because.ensures.asked
    c.in_ok-tell_refusal-in-Err-Because.ensures.status c.in_ok-tell_refusal-in-Err-Because.ensures.text
