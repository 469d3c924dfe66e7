use Rattle.program.proofs.picturing.tell_picture.Goals as goal

pub returns-in-Ok-clause-text : goal.returns-in-Ok-clause-text
returns-in-Ok-clause-text c = record { plan = c.in_ok-plan.plan; drawn = c.in_ok-plan.ensures; is = c.in-Ok.ensures }
