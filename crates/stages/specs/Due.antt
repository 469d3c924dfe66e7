-- For which reasons an instruction is refused in its place, once each line spells one. It is judged by what stands before it.
use Rattle.std.specs.Prelude.{◌||◌, ℕ, Bool, true, false, List, [], ◌∷◌, Option, Some, None, is_some, length, nat_le}
use Rattle.std.specs.Option.{is_none}
use Rattle.plain.specs.Limits.{most_stages}
use Rattle.plain.specs.declared.refusal.Code.{Code}
use Rattle.plain.specs.declared.refusal.Code.TheVariants.{R05, R11, R12, R18}
use Rattle.expand.specs.Value.{Parts}
use Rattle.expand.specs.Expanding.{unexpanded, valued}
use Rattle.expand.specs.declared.fault.Unexpanded.{Unexpanded}
use Rattle.expand.specs.declared.reason.Reason.{Reason}
use Rattle.instructions.specs.Reason.{reason, IsReason, is_long}
use Rattle.instructions.specs.declared.instruction.Argument.{Argument}
use Rattle.instructions.specs.Instruction.{Instruction}
use Rattle.instructions.specs.declared.instruction.InstructionKind.{InstructionKind}
use Rattle.scopes.specs.Scope.{value_in}
use Rattle.scopes.specs.Evaluate.{Values, arg_fault}
use Rattle.scopes.specs.declared.declaration.Declaration.{Declaration}
use Rattle.rows.specs.declared.row.Origin.{Origin}
use Rattle.stages.specs.Naming.{Names, Known, stage_called, base_named, leads_nowhere}
use Rattle.stages.specs.Before.{begun, declared_by, stage_names, all_but_last, outer_scope}

-- the text of a FROM, if it has one: the value of its word under the scope of the ARGs before the first FROM
abbrev pub base_text : List Declaration → Parts → Option (List ℕ)
base_text scope image = valued (value_in scope) image

-- what is against it
abbrev pub base_fault : List Declaration → Parts → Option Unexpanded
base_fault scope image = unexpanded (value_in scope) image

-- what the text of a FROM leads to, if it has one
abbrev pub base_found : Known → Names → Option (List ℕ) → Option Origin
base_found known names None = None
base_found known names (Some text) = base_named known names text

-- it has one, and that leads nowhere
abbrev pub is_nowhere : Known → Names → Option (List ℕ) → Bool
is_nowhere known names None = false
is_nowhere known names (Some text) = is_none (base_named known names text)

-- one of some stages has the name that a stage is given
abbrev pub is_taken : Names → Option (List ℕ) → Bool
is_taken names None = false
is_taken names (Some name) = is_some (stage_called names name)

-- the codes that are due for a FROM with this text, or against which this is, after stages of these names: R11 if one of them has its stage's
-- name too, R12 if the text leads nowhere, R18 if it is too long, or there are as many stages already as a file may have (own)
abbrev pub base_due : Known → Names → Option (List ℕ) → Option Unexpanded → Option (List ℕ) → Code → Bool
base_due known names text fault name R11 = is_taken names name
base_due known names text fault name R12 = is_nowhere known names text
base_due known names text fault name R18 = is_long fault || nat_le most_stages (length names)
base_due known names text fault name code = false

-- the codes that are due for an ARG before the first FROM, by what is against the texts that it expands: R18 if one of them is too long
abbrev pub argument_due : Option Unexpanded → Code → Bool
argument_due fault R18 = is_long fault
argument_due fault code = false

-- the code that is due for an instruction other than ARG before the first FROM (Dockerfile reference, format)
abbrev pub misplaced_due : Code → Bool
misplaced_due R05 = true
misplaced_due code = false

-- the codes that are due for an instruction other than FROM before the first FROM: for an ARG under the scope so far, and for another
abbrev pub outer_due : Values → List Declaration → Option (List Argument) → Code → Bool
outer_due args scope None = misplaced_due
outer_due args scope (Some arguments) = argument_due (arg_fault (value_in scope) args arguments)

-- what is against the texts of such an instruction
abbrev pub outer_fault : Values → List Declaration → Option (List Argument) → Option Unexpanded
outer_fault args scope None = None
outer_fault args scope (Some arguments) = arg_fault (value_in scope) args arguments

-- the codes that are due for an instruction other than FROM in a stage, where these are the names of the stages before it: R12 where it
-- names a tree that isn't there. An ARG in a stage expands its texts where the stage is evaluated
abbrev pub inner_due : Known → Names → InstructionKind → Code → Bool
inner_due known earlier kind R12 = leads_nowhere known earlier kind
inner_due known earlier kind code = false

-- the codes that are due for an instruction other than FROM, after stages of these names
abbrev pub other_due : Known → Values → List Declaration → Names → InstructionKind → Code → Bool
other_due known args scope [] kind = outer_due args scope (declared_by kind)
other_due known args scope (name ∷ names) kind = inner_due known (all_but_last (name ∷ names)) kind

-- what is against the texts of such an instruction. In a stage they are expanded where the stage is evaluated
abbrev pub other_fault : Values → List Declaration → Names → InstructionKind → Option Unexpanded
other_fault args scope [] kind = outer_fault args scope (declared_by kind)
other_fault args scope (name ∷ names) kind = None

-- the codes that are due for an instruction, which begins this stage or none
abbrev pub begun_due : Known → Values → List Declaration → Names → InstructionKind → Option (Parts × Option (List ℕ)) → Code → Bool
begun_due known args scope names kind (Some stage) = base_due known names (base_text scope stage.0) (base_fault scope stage.0) stage.1
begun_due known args scope names kind None = other_due known args scope names kind

-- what is against the texts of an instruction, which begins this stage or none
abbrev pub begun_fault : Values → List Declaration → Names → InstructionKind → Option (Parts × Option (List ℕ)) → Option Unexpanded
begun_fault args scope names kind (Some stage) = base_fault scope stage.0
begun_fault args scope names kind None = other_fault args scope names kind

-- the codes that are due for an instruction after stages of these names, with this scope of the ARGs before the first FROM
abbrev pub kind_due : Known → Values → List Declaration → Names → InstructionKind → Code → Bool
kind_due known args scope names kind = begun_due known args scope names kind (begun kind)

-- and what is against its texts
abbrev pub kind_fault : Values → List Declaration → Names → InstructionKind → Option Unexpanded
kind_fault args scope names kind = begun_fault args scope names kind (begun kind)

-- the codes that are due for an instruction after some instructions
abbrev pub due_after : Known → Values → List Instruction → InstructionKind → Code → Bool
due_after known args before kind = kind_due known args (outer_scope args before) (stage_names before) kind

-- what is against the texts of an instruction after some instructions
abbrev pub fault_after : Values → List Instruction → InstructionKind → Option Unexpanded
fault_after args before kind = kind_fault args (outer_scope args before) (stage_names before) kind

-- the reason for which an instruction after some instructions is refused, if it is: the least code that is due, else R21 with its text
abbrev pub reason_after : Known → Values → List Instruction → InstructionKind → Option Reason
reason_after known args before kind = reason (due_after known args before kind) (fault_after args before kind)

-- this is a reason to refuse an instruction after some instructions
abbrev pub IsReasonAfter : Known → Values → List Instruction → InstructionKind → Reason → Type 0
IsReasonAfter known args before kind why = IsReason (due_after known args before kind) (fault_after args before kind) why
