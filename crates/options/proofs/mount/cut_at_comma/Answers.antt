use Rattle.options.proofs.CutFacts.{first_part, one_part}
use Rattle.options.proofs.mount.cut_at_comma.Goals as goal

pub returns-in-Some-clause-parts : goal.returns-in-Some-clause-parts
returns-in-Some-clause-parts c = first_part c.args.list.now c.in-Some.part c.in-Some.rest c.in-Some.ensures.cases

pub returns-in-None-clause-parts : goal.returns-in-None-clause-parts
returns-in-None-clause-parts c = one_part c.args.list.now c.in-None.ensures.cases
