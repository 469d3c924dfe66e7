use Rattle.explains.proofs.FailureFacts.{failure_shown}
use Rattle.explains.proofs.explaining.show_failure.Goals as goal

pub returns : goal.returns
returns g c =
    failure_shown c.args.file.now c.args.bytes.now c.as_slice.result.now c.in_ok-dockerfile.dockerfile c.args.line c.args.cause c.in_ok-missed.missed c.show_missed.result
    c.in_ok-dockerfile.ensures c.as_slice.ensures c.in_ok-missed.ensures c.show_missed.ensures
