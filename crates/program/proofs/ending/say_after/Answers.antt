use Rattle.std.proofs.Common.{[]}
use Rattle.program.proofs.ending.say_after.Goals as goal

-- there was no memory to say the notes too
pub returns-in-Err : goal.returns-in-Err
returns-in-Err g c = ([], c.say-in-Err.ensures)
