use Rattle.lowering.proofs.PutFacts.{put_ok}
use Rattle.lowering.proofs.adding.add.Goals as goal

pub returns-in-Ok : goal.returns-in-Ok
returns-in-Ok c =
    put_ok c.args.graph.now c.add.new.self c.args.op c.args.inputs c.args.line c.in-Ok.id c.vertices-known.ensures.graph c.in-Ok.ensures.adds
