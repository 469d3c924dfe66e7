use Rattle.std.proofs.Common.{Some}
use Rattle.reasons.specs.PrivateReasons.{TellsNames}
use Rattle.reasons.proofs.Known.{if_ok}
use Rattle.reasons.proofs.telling.tell_path.Goals as goal

pub returns-in-Some : goal.returns-in-Some
returns-in-Some c =
    if_ok c.tell_line.result _ (λ told. TellsNames c.args.file.now c.args.word.now c.args.path.now told) (λ told is. (Some c.in-Some.position, c.in-Some.ensures.line, is)) c.tell_line.ensures
