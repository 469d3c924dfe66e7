use Rattle.std.proofs.Common.{subst}
use Rattle.program.specs.Runs.{SaysAfterNotes}
use Rattle.program.specs.Saying.{stream}
use Rattle.program.proofs.ending.finish_folder.Goals as goal

pub returns-clause-says : goal.returns-clause-says
returns-clause-says g c =
    subst (λ text. SaysAfterNotes text (stream (g.S.CountedWrite.contents c.args.errors.now) (g.S.CountedWrite.failures c.args.errors.now)) (stream (g.S.CountedWrite.contents c.say_after.new.errors) (g.S.CountedWrite.failures c.say_after.new.errors)))
    c.end_line.ensures c.say_after.ensures
