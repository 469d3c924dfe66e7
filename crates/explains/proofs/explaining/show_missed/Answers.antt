use Rattle.explains.proofs.FailureFacts.{plain_shown, source_shown}
use Rattle.explains.proofs.explaining.show_missed.Goals as goal

pub returns-in-None : goal.returns-in-None
returns-in-None g c = plain_shown c.args.file.now c.args.bytes.now _ c.args.line c.args.cause c.args.missed c.shown_failure.result c.in-None.is c.shown_failure.ensures

pub returns-in_ok-left-in-Some : goal.returns-in_ok-left-in-Some
returns-in_ok-left-in-Some g c =
    source_shown c.args.file.now c.args.bytes.now _ c.args.line c.args.cause c.args.missed c.in-Some.missed c.as_str-source.result.now c.in_ok-left-in-Some.left c.show_source.result
    c.in-Some.is c.as_str-source.ensures c.in_ok-left-in-Some.ensures c.show_source.ensures
