-- The laws of the crates below that hold, as premises; whether an image that is named is among some names.
use Rattle.std.specs.Prelude.{◌≡◌, ℕ, Bool, true, List, None, length, map}
use Rattle.std.specs.List.{list_all, count_by}
use Rattle.ascii.specs.Names.{is_name}
use Rattle.expand.specs.Value.{Parts}
use Rattle.options.specs.declared.copy.CopyFlags.{CopyFlags}
use Rattle.options.specs.declared.mount.Mount.{Mount}
use Rattle.rows.specs.WellFormed.{IsAction}
use Rattle.rows.specs.declared.row.Origin.{Origin}
use Rattle.instructions.specs.Instruction.{IsInstruction}
use Rattle.instructions.specs.Least.{least}
use Rattle.instructions.specs.Reason.{reason}
use Rattle.instructions.specs.declared.instruction.Argument.{Argument}
use Rattle.instructions.specs.declared.instruction.Assignment.{Assignment}
use Rattle.instructions.specs.declared.instruction.Command.{Command}
use Rattle.instructions.specs.declared.instruction.InstructionKind.TheVariants.{Run, Copy}
use Rattle.instructions.specs.declared.instruction.Source.{Source}
use Rattle.scopes.specs.Evaluate.{Values, env_line, arg_line}
use Rattle.plain.specs.VariableName.{is_variable_name}
use Rattle.scopes.specs.Scope.{kept, names_in}
use Rattle.scopes.specs.declared.declaration.Declaration.{Declaration}
use Rattle.actions.specs.Copy.{copy_action, copy_due, copy_fault}
use Rattle.actions.specs.Run.{is_bind, run_action, run_due}
use Rattle.evaluation.specs.Images.{ImageNames}
use Rattle.evaluation.proofs.ImageFacts.{HasName}

-- what each law says is what its function ensures
pub record Laws : Type 0 where
  pub runs : (scope : List Declaration) (dir : List (List ℕ)) (user : List ℕ) (shell : List (List ℕ)) (mounts : List Mount) (command : Command) (origins : List Origin)
      → IsInstruction (Run mounts command)
      → length origins ≡ count_by (λ mount. is_bind mount.kind) mounts
      → list_all is_variable_name (names_in scope) ≡ true
      → least (run_due dir mounts) ≡ None
      → IsAction (run_action scope dir user shell mounts command origins)
  pub copies : (scope : List Declaration) (dir : List (List ℕ)) (sources : List Source) (destination : Parts) (flags : CopyFlags) (origin : Origin)
      → IsInstruction (Copy sources destination flags)
      → reason (copy_due scope dir sources destination) (copy_fault scope sources destination) ≡ None
      → IsAction (copy_action scope dir sources destination flags origin)
  pub kept_names : (fits : List ℕ → Bool) (ds : List Declaration) → list_all fits (names_in ds) ≡ true → list_all fits (names_in (kept ds)) ≡ true
  pub variable_names : (before : Values) (assignments : List Assignment) → names_in (env_line before assignments) ≡ map (λ a. a.name) assignments
  pub argument_names : (before args outer : Values) (arguments : List Argument) → names_in (arg_line before args outer arguments) ≡ map (λ a. a.name) arguments
  pub names_fit : (n : List ℕ) → is_name n ≡ true → is_variable_name n ≡ true

-- an image that is named is among these
abbrev pub IsHeld : ImageNames → Origin → Type 0
IsHeld names origin = HasName names origin
