use Rattle.packing.proofs.GatherFacts.{gathers_taken}
use Rattle.packing.proofs.walking.read_row.Goals as goal

pub returns-in_ok-push-in-Ok-true-clause-gathers : goal.returns-in_ok-push-in-Ok-true-clause-gathers
returns-in_ok-push-in-Ok-true-clause-gathers g c =
    gathers_taken c.args.leaving.now c.decide-at.result.path c.in-Ok-true.field-0 c.args.found.now c.add_row.new.found c.in-Ok-true.ensures c.requires.gathers

pub returns-in-Ok-false-clause-gathers : goal.returns-in-Ok-false-clause-gathers
returns-in-Ok-false-clause-gathers g c =
    gathers_taken c.args.leaving.now c.decide-at.result.path c.in-Ok-false.field-0 c.args.found.now c.add_row.new.found c.in-Ok-false.ensures c.requires.gathers
