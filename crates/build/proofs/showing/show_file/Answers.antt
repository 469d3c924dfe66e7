use Rattle.build.proofs.ShowFacts.{file_shown, clash_shown}
use Rattle.build.proofs.showing.show_file.Goals as goal

pub returns-in_ok-line_of-in-Ok : goal.returns-in_ok-line_of-in-Ok
returns-in_ok-line_of-in-Ok c =
    file_shown c.args.evaluated c.in_ok-plan.plan c.in-Ok.text _ c.graph-known.ensures.plan c.in_ok-plan.ensures.means c.in_ok-plan.ensures.stands c.in_ok-plan.ensures.sources c.in-Ok.ensures
    c.in_ok-line_of-in-Ok.ensures.status c.in_ok-line_of-in-Ok.ensures.line

pub returns-in-Err-Because : goal.returns-in-Err-Because
returns-in-Err-Because c =
    clash_shown c.args.evaluated c.in_ok-plan.plan c.in-Err-Because.field-0 c.in-Err-Because.field-0-0 c.in-Err-Because.field-0-is c.graph-known.ensures.plan
    c.in_ok-plan.ensures.means c.in_ok-plan.ensures.stands c.in-Err-Because.ensures
