-- How a call ends that writes which instruction of a bundle fails (own).
use Rattle.std.specs.Prelude.{ℕ, List, Result}
use Rattle.plans.specs.Value.{Out}
use Rattle.answering.specs.declared.status.Status.{Status}
use Rattle.program.specs.declared.fault.TellFault.{TellFault}
use Rattle.build.specs.Ends.{Devices}
use Rattle.explains.specs.Explained.{Explains}
use Rattle.program.specs.Telling.{TellingEnds, never}

-- how writing it ends, where positions call the Dockerfile so; it never stops
abbrev pub ExplainEnds : List ℕ → Out → Devices → Devices → Result Status TellFault → Type 0
ExplainEnds file out old new ended = TellingEnds (Explains file out) never old new ended
