-- One step of a stage's configuration (OCI image specification; Dockerfile reference).
use Rattle.std.specs.Prelude.{◌≡◌, ℕ, Bool, false, true, List, [], Option, Some, None, Result, Ok, Err, map, if◌then◌else◌}
use Rattle.plain.specs.declared.fault.Fault.{Fault}
use Rattle.plain.specs.declared.fault.Fault.TheVariants.{Because, Memory}
use Rattle.plain.specs.declared.refusal.Code.{Code}
use Rattle.plain.specs.declared.variable.Variable.{Variable}
use Rattle.paths.specs.Reading.{read_from}
use Rattle.expand.specs.Value.{value}
use Rattle.expand.specs.Expanding.{unexpanded}
use Rattle.expand.specs.declared.fault.Unexpanded.{Unexpanded}
use Rattle.expand.specs.declared.reason.Rejection.{Rejection}
use Rattle.instructions.specs.Reason.{reason}
use Rattle.instructions.specs.Instruction.{Instruction}
use Rattle.instructions.specs.declared.instruction.InstructionKind.{InstructionKind}
use Rattle.instructions.specs.declared.instruction.InstructionKind.TheVariants.{Env, Label, Expose, User, Workdir, StopSignal, Volume, Shell, Cmd, Entrypoint}
use Rattle.scopes.specs.Evaluate.{Values, env_fault}
use Rattle.imageconfig.specs.declared.config.Config.{Config}
use Rattle.imageconfig.specs.Environment.{row_of}
use Rattle.imageconfig.specs.Rows.{put_rows, add_names}
use Rattle.instructions.specs.Command.{words_of}
use Rattle.imageconfig.specs.Lines.{env_rows, env_due, label_rows, label_fault, label_due, texts_of, words_fault, port_keys, port_due, volume_due, text_due, dir_due}

-- the working directory, which is the root where none is set
abbrev pub dir_of : Option (List (List ℕ)) → List (List ℕ)
dir_of None = []
dir_of (Some path) = path

abbrev pub nothing_due : Code → Bool
nothing_due code = false

-- the codes that are due for an instruction on a configuration, under the scope before its line
abbrev pub due : Values → Config → InstructionKind → Code → Bool
due before c (Env assignments) = env_due before assignments
due before c (Label labels) = label_due before labels
due before c (Expose ports) = port_due before ports
due before c (User user) = text_due before user
due before c (Workdir path) = dir_due before (dir_of c.working_dir) path
due before c (StopSignal signal) = text_due before signal
due before c (Volume paths) = volume_due before paths
due before c kind = nothing_due

-- what is against the texts of an instruction, under the scope before its line
abbrev pub fault : Values → InstructionKind → Option Unexpanded
fault before (Env assignments) = env_fault before assignments
fault before (Label labels) = label_fault before labels
fault before (Expose ports) = words_fault before ports
fault before (User user) = unexpanded before user
fault before (Workdir path) = unexpanded before path
fault before (StopSignal signal) = unexpanded before signal
fault before (Volume paths) = words_fault before paths
fault before kind = None

-- the configuration after an instruction that nothing is against: ENV, LABEL, EXPOSE and VOLUME add to what there is; USER, WORKDIR,
-- STOPSIGNAL, SHELL, CMD and ENTRYPOINT set a field in place of what there was (OCI image specification; Dockerfile reference). CMD makes
-- the Cmd the stage's own, and ENTRYPOINT unsets a Cmd that isn't (Dockerfile reference, how CMD and ENTRYPOINT interact)
abbrev pub changed : Values → Config → InstructionKind → Config
changed before c (Env assignments) = record c { env = put_rows c.env (env_rows before assignments) }
changed before c (Label labels) = record c { labels = put_rows c.labels (label_rows before labels) }
changed before c (Expose ports) = record c { exposed_ports = add_names c.exposed_ports (port_keys before ports) }
changed before c (User user) = record c { user = value before user }
changed before c (Workdir path) = record c { working_dir = Some (read_from (value before path) (dir_of c.working_dir)) }
changed before c (StopSignal signal) = record c { stop_signal = value before signal }
changed before c (Volume paths) = record c { volumes = add_names c.volumes (texts_of before paths) }
changed before c (Shell words) = record c { shell = words }
changed before c (Cmd command) = record c { cmd = words_of c.shell command; cmd_is_own = true }
changed before c (Entrypoint command) = record c { entrypoint = words_of c.shell command; cmd = if c.cmd_is_own then c.cmd else [] }
changed before c kind = c

-- what applying an instruction answers, and the configuration after it: the changed one if there is no reason to refuse the line, else
-- the reason with the instruction's line; after a fault the configuration is as it was
abbrev pub IsApplied : Config → Values → Instruction → Config → Result (Unit {0}) (Fault Rejection) → Type 0
IsApplied old before i new (Ok u) = (new ≡ changed before old i.kind) × (reason (due before old i.kind) (fault before i.kind) ≡ None)
IsApplied old before i new (Err (Because rejection)) = (new ≡ old) × ((rejection.line ≡ i.line) × (reason (due before old i.kind) (fault before i.kind) ≡ Some rejection.reason))
IsApplied old before i new (Err Memory) = new ≡ old

-- a configuration in whose environment variables were given their values, each in the place that its name has, or at the end
abbrev pub with_variables : Config → List Variable → Config
with_variables c variables = record c { env = put_rows c.env (map row_of variables) }

-- what a stage begins with whose base has this configuration: the base's Cmd isn't the stage's own (Dockerfile reference, how CMD and
-- ENTRYPOINT interact)
abbrev pub child_of : Config → Config
child_of c = record c { cmd_is_own = false }
