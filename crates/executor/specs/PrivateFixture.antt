-- The fixture executor line by line (own).
use Rattle.std.specs.Prelude.{ℕ, Ok, List, if◌then◌else◌}
use Rattle.ascii.specs.Pieces.{pieces}
use Rattle.trees.specs.TreeMap.{TreeMap}
use Rattle.runs.specs.declared.run.RunRequest.{RunRequest}
use Rattle.executor.specs.Script.{has_word}
use Rattle.executor.specs.Edits.{SightValue, SightOrStatus}
use Rattle.executor.specs.Fixture.{after_command, held_by_command}

-- a line of a script: its command, if it has a word
abbrev pub after_line : RunRequest → List ℕ → SightValue → SightOrStatus
after_line request line sight = if has_word (pieces line) then after_command request (pieces line) sight else Ok sight

-- what caches hold after a line of a script
abbrev pub held_by_line : RunRequest → List ℕ → SightValue → List TreeMap → List TreeMap
held_by_line request line sight caches = if has_word (pieces line) then held_by_command request (pieces line) sight caches else caches
