use Rattle.build.proofs.AskFacts.{bundle_asked}
use Rattle.build.proofs.TitledFacts.{titles_told, left_told, digests_told}
use Rattle.build.specs.Titled.{asked_in}
use Rattle.build.proofs.titled.ask_titled.Goals as goal

pub returns-in-Ok-clause-asked : goal.returns-in-Ok-clause-asked
returns-in-Ok-clause-asked g c =
    bundle_asked c.args.bytes.now c.in-Ok.bundle (asked_in c.titled_bundle.result) c.in-Ok.ensures.reads c.titled_bundle.ensures.asked

pub returns-in-Ok-clause-titles : goal.returns-in-Ok-clause-titles
returns-in-Ok-clause-titles g c =
    titles_told c.args.bytes.now c.in-Ok.bundle c.in-Ok.left_out c.in-Ok.ensures c.titled_bundle.result c.titled_bundle.ensures.titles

pub returns-in-Ok-clause-left_out : goal.returns-in-Ok-clause-left_out
returns-in-Ok-clause-left_out g c =
    left_told c.args.bytes.now c.in-Ok.bundle c.in-Ok.left_out c.in-Ok.ensures c.titled_bundle.result c.titled_bundle.ensures.left_out

pub returns-in-Ok-clause-digests : goal.returns-in-Ok-clause-digests
returns-in-Ok-clause-digests g c =
    digests_told c.args.bytes.now c.in-Ok.bundle c.in-Ok.left_out c.in-Ok.ensures c.titled_bundle.result c.titled_bundle.ensures.digests
