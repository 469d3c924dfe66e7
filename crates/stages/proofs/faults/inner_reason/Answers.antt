use Rattle.std.proofs.Common.{Some, None}
use Rattle.stages.specs.Naming.{names_in, origins_of}
use Rattle.stages.specs.Before.{all_but_last}
use Rattle.stages.specs.Due.{inner_due}
use Rattle.stages.proofs.FaultsFacts.{all_evaluate}
use Rattle.stages.proofs.faults.inner_reason.Goals as goal

pub returns : goal.returns
returns g c =
    let known = names_in c.args.images.now in
    let earlier = all_but_last c.args.names.now in
    all_evaluate (Some (origins_of known earlier c.args.kind.now)) (inner_due known earlier c.args.kind.now) None c.inner_origins.result
    c.reason_of.result c.inner_origins.ensures c.reason_of.ensures
