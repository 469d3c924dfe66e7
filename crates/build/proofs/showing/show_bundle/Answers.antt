use Rattle.build.proofs.ShowFacts.{bundle_shown, refusal_shown}
use Rattle.build.proofs.showing.show_bundle.Goals as goal

pub returns-in-Ok : goal.returns-in-Ok
returns-in-Ok g c = bundle_shown c.args.bytes.now c.in-Ok.asked.evaluated c.show_file.result c.in-Ok.ensures.asked c.show_file.ensures

pub returns-in_ok-line_of-in-Err-Because : goal.returns-in_ok-line_of-in-Err-Because
returns-in_ok-line_of-in-Err-Because g c =
    refusal_shown c.args.bytes.now c.in-Err-Because.field-0 c.in-Err-Because.refusal c.in_ok-text-in-Err-Because.text _ c.in-Err-Because.field-0-is c.in-Err-Because.ensures.asked c.in_ok-text-in-Err-Because.ensures c.in_ok-line_of-in-Err-Because.ensures.status c.in_ok-line_of-in-Err-Because.ensures.line
