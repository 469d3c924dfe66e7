-- What is claimed of a step.
use Rattle.std.proofs.Common.{◌≡◌, true, false, cond, [], ap}
use Rattle.instructions.specs.declared.instruction.Command.{Command}
use Rattle.instructions.specs.declared.instruction.InstructionKind.TheVariants.{Entrypoint}
use Rattle.scopes.specs.Evaluate.{Values}
use Rattle.imageconfig.specs.declared.config.Config.{Config}
use Rattle.imageconfig.specs.Steps.{changed}

pub cmd-unset : (before : Values) (config : Config) (command : Command) → config.cmd_is_own ≡ false → (changed before config (Entrypoint command)).cmd ≡ []
cmd-unset before config command h = ap (λ b. cond b config.cmd []) h

pub cmd-kept : (before : Values) (config : Config) (command : Command) → config.cmd_is_own ≡ true → (changed before config (Entrypoint command)).cmd ≡ config.cmd
cmd-kept before config command h = ap (λ b. cond b config.cmd []) h
