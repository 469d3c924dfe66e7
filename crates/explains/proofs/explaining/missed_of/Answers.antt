use Rattle.explains.proofs.FailureFacts.{missed_found, never_refused}
use Rattle.explains.proofs.explaining.missed_of.Goals as goal

pub returns-in-Ok : goal.returns-in-Ok
returns-in-Ok g c =
    missed_found c.args.bytes.now c.in-Ok.asked.evaluated c.as_slice.result.now c.args.line c.args.cause c.missed_source-found.result c.in-Ok.ensures.asked
    c.as_slice.ensures c.missed_source-found.ensures

pub unreachable-requires : goal.unreachable-requires
unreachable-requires g c =
    never_refused c.a_bundle_asks_for_one_thing.ensures c.args.bytes.now c.in-Err-Because.field-0 c.in-Err-Because.field-0-0 c.in-Err-Because.field-0-is
    c.in-Err-Because.ensures.asked c.requires
