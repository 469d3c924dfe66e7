use Rattle.packing.specs.Asked.{asked_of}
use Rattle.packing.proofs.GatherFacts.{by_result}
use Rattle.packing.proofs.finding.read_by.Goals as goal

pub returns-in-Ok-found-clause-context : goal.returns-in-Ok-found-clause-context
returns-in-Ok-found-clause-context g c =
    by_result (asked_of c.args.options) c.in-Ok.leaving c.in-Ok-found.folder c.args.ignore.bytes c.put_ignore_file.result c.in-Ok.ensures.lines c.in-Ok.ensures.asked
    c.in-Ok-found.ensures.gathers c.put_ignore_file.ensures.put
