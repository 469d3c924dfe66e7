use Rattle.std.specs.FinMap.{get}
use Rattle.evaluation.proofs.EvaluatedFacts.{answers_none}
use Rattle.evaluation.proofs.WholeFacts.{whole_rows, whole_target, whole_named, whole_images, whole_steps, whole_order, whole_needs}
use Rattle.evaluation.proofs.evaluated.evaluate.Goals as goal

pub returns-in-Ok-clause-rows : goal.returns-in-Ok-clause-rows
returns-in-Ok-clause-rows c = whole_rows c.args.images c.args.table c.evaluate_needed.result c.evaluate_needed.ensures.whole

pub returns-in-Ok-clause-target : goal.returns-in-Ok-clause-target
returns-in-Ok-clause-target c = whole_target c.args.images c.args.table c.evaluate_needed.result c.evaluate_needed.ensures.whole

pub returns-in-Ok-clause-named : goal.returns-in-Ok-clause-named
returns-in-Ok-clause-named c = whole_named c.args.images c.args.table c.evaluate_needed.result c.evaluate_needed.ensures.whole

pub returns-in-Ok-clause-images : goal.returns-in-Ok-clause-images
returns-in-Ok-clause-images c = whole_images c.args.images c.args.table c.evaluate_needed.result c.evaluate_needed.ensures.whole

pub returns-in-Ok-clause-steps : goal.returns-in-Ok-clause-steps
returns-in-Ok-clause-steps c = whole_steps c.args.images c.args.table c.evaluate_needed.result c.evaluate_needed.ensures.whole

pub returns-in-Ok-clause-order : goal.returns-in-Ok-clause-order
returns-in-Ok-clause-order c = whole_order c.args.images c.args.table c.evaluate_needed.result c.evaluate_needed.ensures.whole

pub returns-in-Ok-clause-needs : goal.returns-in-Ok-clause-needs
returns-in-Ok-clause-needs c = whole_needs c.args.images c.args.table c.evaluate_needed.result c.evaluate_needed.ensures.whole

pub returns-in-Err-clause-answers : goal.returns-in-Err-clause-answers
returns-in-Err-clause-answers c = answers_none (get c.args.args.now) c.args.images c.args.context c.args.table
