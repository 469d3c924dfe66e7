use Rattle.explains.proofs.FailureFacts.{dockerfile_read}
use Rattle.explains.proofs.explaining.dockerfile_of.Goals as goal

pub returns-in-Ok : goal.returns-in-Ok
returns-in-Ok g c =
    dockerfile_read c.args.bytes.now c.as_slice.result.now c.in-Ok.bundle c.from_slice-text.result c.in-Ok.ensures c.as_slice.ensures c.from_slice-text.ensures
