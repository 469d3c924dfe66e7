-- What lines are read as, item by item, and what a change answers.
use Rattle.std.specs.Prelude.{◌≡◌, ◌++◌, ◌||◌, ℕ, true, List, [], Option, Some, None, Result, Ok, Err, if◌then◌else◌}
use Rattle.std.specs.List.{cons_option}
use Rattle.plain.specs.declared.fault.Fault.{Fault}
use Rattle.plain.specs.declared.fault.Fault.TheVariants.{Because, Memory}
use Rattle.expand.specs.Value.{Parts}
use Rattle.expand.specs.Expanding.{unexpanded, valued, is_valued, is_empty, worse}
use Rattle.expand.specs.declared.reason.Reason.{Reason}
use Rattle.instructions.specs.Command.{words_of}
use Rattle.instructions.specs.Reason.{reason}
use Rattle.instructions.specs.declared.instruction.Command.{Command}
use Rattle.instructions.specs.declared.instruction.Label.{Label}
use Rattle.instructions.specs.declared.instruction.InstructionKind.{InstructionKind}
use Rattle.scopes.specs.Evaluate.{Values}
use Rattle.imageconfig.specs.declared.config.Config.{Config}
use Rattle.imageconfig.specs.declared.line.Labelled.{Labelled}
use Rattle.imageconfig.specs.declared.values.Found.{Found}
use Rattle.imageconfig.specs.Rows.{Row}
use Rattle.imageconfig.specs.Steps.{due, fault, changed}

-- the row of a name and a value, if both are there
abbrev pub row_with : Option (List ℕ) → Option (List ℕ) → Option Row
row_with None value = None
row_with (Some name) None = None
row_with (Some name) (Some value) = Some (name, value)

-- the row of a label, if its texts have values
abbrev pub labelled_row : Values → Label → Option Row
labelled_row before label = row_with (valued before label.key) (valued before label.value)

-- values with that of a word more, if it has one
pub record IsFound (before : Values) (old : Found) (word : Parts) (new : Found) : Type 0 where
  pub fault : new.fault ≡ worse old.fault (unexpanded before word)
  pub values : new.values ≡ old.values ++ cons_option (valued before word) []

-- labels with one more
pub record IsLabelled (before : Values) (old : Labelled) (label : Label) (new : Labelled) : Type 0 where
  pub fault : new.fault ≡ worse (worse old.fault (unexpanded before label.key)) (unexpanded before label.value)
  pub rows : new.rows ≡ old.rows ++ cons_option (labelled_row before label) []
  pub has_empty_key : new.has_empty_key ≡ (old.has_empty_key || is_valued is_empty (valued before label.key))

-- the configuration with the words of a SHELL
abbrev pub with_shell : Config → List (List ℕ) → Config
with_shell c words = record c { shell = words }

-- that with those of a CMD
abbrev pub with_cmd : Config → Command → Config
with_cmd c command = record c { cmd = words_of c.shell command; cmd_is_own = true }

-- that with those of an ENTRYPOINT
abbrev pub with_entrypoint : Config → Command → Config
with_entrypoint c command = record c { entrypoint = words_of c.shell command; cmd = if c.cmd_is_own then c.cmd else [] }

-- what a change by an instruction answers
abbrev pub IsChanged : Config → Values → InstructionKind → Config → Result (Unit {0}) (Fault Reason) → Type 0
IsChanged old before kind new (Ok u) = (new ≡ changed before old kind) × (reason (due before old kind) (fault before kind) ≡ None)
IsChanged old before kind new (Err (Because why)) = (new ≡ old) × (reason (due before old kind) (fault before kind) ≡ Some why)
IsChanged old before kind new (Err Memory) = new ≡ old
