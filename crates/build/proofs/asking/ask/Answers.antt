use Rattle.build.proofs.AskFacts.{bundle_asked, bundle_refused, bundle_stored}
use Rattle.build.proofs.asking.ask.Goals as goal

pub returns-in-Ok-clause-asked : goal.returns-in-Ok-clause-asked
returns-in-Ok-clause-asked g c = bundle_asked c.args.bytes.now c.in-Ok.bundle c.ask_file.result c.in-Ok.ensures c.ask_file.ensures.asked

pub returns-in-Ok-clause-store : goal.returns-in-Ok-clause-store
returns-in-Ok-clause-store g c = bundle_stored c.args.bytes.now c.in-Ok.bundle c.ask_file.result c.in-Ok.ensures c.ask_file.ensures.store

pub returns-in-Err-clause-asked : goal.returns-in-Err-clause-asked
returns-in-Err-clause-asked g c = bundle_refused c.args.bytes.now c.in-Err.fault _ c.in-Err.ensures c.rejection_fault.ensures
