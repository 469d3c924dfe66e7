use Rattle.program.proofs.input.finish_unopened.Goals as goal

pub returns : goal.returns
returns g c = record { fault = c.open_fault.result; fails = c.open_fault.ensures; says = c.finish_file.ensures.says; is = c.finish_file.ensures.is }
