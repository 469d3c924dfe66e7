use Rattle.stages.specs.Naming.{names_in}
use Rattle.stages.specs.Due.{base_text, base_fault, base_found, base_due}
use Rattle.stages.proofs.FaultsFacts.{all_evaluate}
use Rattle.stages.proofs.faults.base_reason.Goals as goal

pub returns : goal.returns
returns g c =
    let known = names_in c.args.images.now in
    let text = base_text c.args.outer.now c.args.image.now in
    let fault = base_fault c.args.outer.now c.args.image.now in
    all_evaluate (base_found known c.args.names.now text) (base_due known c.args.names.now text fault c.args.name.now) fault c.base.result
    c.reason_of.result c.base.ensures c.reason_of.ensures
