-- What the crate's own functions answer to a subcommand (own).
use Rattle.std.specs.Prelude.{List, Option, Some, MatchOption}
use Rattle.clap.specs.Words.{Row, Text}
use Rattle.command.specs.Tasks.{IsTaskOf}
use Rattle.command.specs.declared.task.Task.{Task}

-- its task, by its name and its matches, or none if it asks for none (own)
abbrev pub IsAnswer : Text × List Row → Option Task → Type 0
IsAnswer found answer = MatchOption answer ((task : Task) → ¬ IsTaskOf (Some found) task) (IsTaskOf (Some found))
