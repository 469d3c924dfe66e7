use Rattle.explains.proofs.FailureFacts.{faults_told}
use Rattle.explains.proofs.explaining.explain.Goals as goal

pub returns-in-Err-Because : goal.returns-in-Err-Because
returns-in-Err-Because g c =
    faults_told c.args.file.now (g.E.Executor.out c.args.executor.now) c.args.bytes.now c.in-Err-Because.field-0 c.in-Err-Because.refusal c.explain_faults.result c.in-Err-Because.field-0-is
    c.in-Err-Because.ensures.asked c.explain_faults.ensures.status c.explain_faults.ensures.text
