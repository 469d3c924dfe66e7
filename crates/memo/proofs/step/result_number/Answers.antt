use Rattle.memo.proofs.GenerationLemmas.{stands-for}
use Rattle.memo.proofs.step.result_number.Goals as goal

pub returns-in-Some : goal.returns-in-Some
returns-in-Some c = stands-for c.args.steps.now c.args.op.now c.args.inputs.now c.in-Some.step.now c.in-Some.ensures.stands c.in-Some.ensures.op c.in-Some.ensures.inputs
