use Rattle.std.proofs.Common.{Some}
use Rattle.reasons.specs.Leaving.{LeavesBy}
use Rattle.reasons.proofs.Known.{if_ok}
use Rattle.reasons.proofs.leaving.leaving_path.Goals as goal

pub returns-in-Some : goal.returns-in-Some
returns-in-Some c =
    if_ok c.leaving_of.result _ (λ left. LeavesBy c.args.file.now c.args.path.now left) (λ left is. (Some c.in-Some.position, c.in-Some.ensures.line, is)) c.leaving_of.ensures
