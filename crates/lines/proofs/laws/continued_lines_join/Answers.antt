use Rattle.lines.proofs.ContinuedLemmas.{continued_join}
use Rattle.lines.proofs.laws.continued_lines_join.Goals as goal

pub returns : goal.returns
returns c top directives escape fronts parts last read is all kept ends some unmarked found faults file =
    continued_join top directives escape fronts parts last found faults read is all kept ends some unmarked file
