-- What the code has of a file while it goes through it.
use Rattle.std.specs.Prelude.{◌≡◌, ◌≤◌, ◌++◌, ℕ, Bool, true, false, List, [], ◌∷◌, map, Option, Some, None, length, Result, Ok, Err}
use Rattle.plain.specs.Limits.{most_stages}
use Rattle.plain.specs.declared.refusal.Code.TheVariants.{R11, R18}
use Rattle.plain.specs.declared.fault.Fault.{Fault}
use Rattle.plain.specs.declared.fault.Fault.TheVariants.{Because, Memory}
use Rattle.expand.specs.Value.{Parts}
use Rattle.expand.specs.Reasons.{reason_of}
use Rattle.expand.specs.declared.fault.Unexpanded.{Unexpanded}
use Rattle.expand.specs.declared.reason.Reason.{Reason}
use Rattle.expand.specs.declared.reason.Reason.TheVariants.{Coded}
use Rattle.expand.specs.declared.reason.Rejection.{Rejection}
use Rattle.instructions.specs.declared.instruction.Argument.{Argument}
use Rattle.instructions.specs.Instruction.{Instruction}
use Rattle.rows.specs.declared.row.Origin.{Origin}
use Rattle.scopes.specs.Scope.{value_in, kept}
use Rattle.scopes.specs.Evaluate.{Values, arg_line}
use Rattle.stages.specs.declared.resolving.Draft.{Draft}
use Rattle.stages.specs.declared.stage.ResolvedInstruction.{ResolvedInstruction}
use Rattle.stages.specs.declared.stage.ResolvedStage.{ResolvedStage}
use Rattle.std.specs.List.{All}
use Rattle.options.specs.Lists.{all_some}
use Rattle.stages.specs.Naming.{Names, Known, Reference, references, led_to, origins_of}
use Rattle.stages.specs.Before.{begun, declared_by, stage_names, all_but_last, outer_scope}
use Rattle.stages.specs.Table.{base_of, stages_of}
use Rattle.stages.specs.Resolved.{first_refusal}

-- why a FROM is refused whose text has no value for this reason: first if its stage's name is taken, then if there are as many stages already
-- as a file may have
abbrev pub unbased : Bool → Bool → Unexpanded → Reason
unbased true is_full why = Coded R11
unbased false true why = Coded R18
unbased false false why = reason_of why

-- what references lead to, if all of them lead somewhere
abbrev pub all_led : Known → Names → List Reference → Option (List Origin)
all_led known names references = all_some (map (led_to known names) references)

-- the stages that are whole, and the last one
abbrev pub with_last : List ResolvedStage → Option ResolvedStage → List ResolvedStage
with_last stages None = stages
with_last stages (Some last) = stages ++ last ∷ []

-- a stage with one more instruction
abbrev pub with_instruction : ResolvedInstruction → ResolvedStage → ResolvedStage
with_instruction r stage = record stage { instructions = stage.instructions ++ r ∷ [] }

-- the last stage with one more instruction; where there is no stage nothing comes
abbrev pub last_with : ResolvedInstruction → Option ResolvedStage → Option ResolvedStage
last_with r None = None
last_with r (Some stage) = Some (with_instruction r stage)

-- what a FROM leaves
abbrev pub draft_begun : Known → Draft → ℕ → Parts → Option (List ℕ) → Draft
draft_begun known draft line image name = record {
  outer = draft.outer;
  names = draft.names ++ name ∷ [];
  stages = with_last draft.stages draft.last;
  last = Some (record { line = line; base = base_of known draft.outer draft.names image; instructions = [] });
}

-- what an ARG before the first FROM leaves
abbrev pub draft_declared : Values → Draft → List Argument → Draft
draft_declared args draft arguments = record draft { outer = kept (draft.outer ++ arg_line (value_in draft.outer) args (λ name. None) arguments) }

-- what another instruction leaves before the first FROM, where it is refused if it is no ARG
abbrev pub draft_outer : Values → Draft → Option (List Argument) → Draft
draft_outer args draft None = draft
draft_outer args draft (Some arguments) = draft_declared args draft arguments

-- what an instruction of a stage leaves
abbrev pub draft_extended : Known → Draft → Instruction → Draft
draft_extended known draft i =
    record draft { last = last_with (record { instruction = i; origins = origins_of known (all_but_last draft.names) i.kind }) draft.last }

-- what an instruction other than FROM leaves, after stages of these names
abbrev pub draft_other : Known → Values → Draft → Names → Instruction → Draft
draft_other known args draft [] i = draft_outer args draft (declared_by i.kind)
draft_other known args draft (name ∷ names) i = draft_extended known draft i

-- what an instruction leaves, which begins this stage or none
abbrev pub draft_by : Known → Values → Draft → Instruction → Option (Parts × Option (List ℕ)) → Draft
draft_by known args draft i (Some stage) = draft_begun known draft i.line stage.0 stage.1
draft_by known args draft i None = draft_other known args draft draft.names i

-- what an instruction leaves
abbrev pub draft_after : Known → Values → Draft → Instruction → Draft
draft_after known args draft i = draft_by known args draft i (begun i.kind)

-- an instruction has an origin for each tree that it names
abbrev pub IsCounted : ResolvedInstruction → Type 0
IsCounted r = length r.origins ≡ length (references r.instruction.kind)

-- so it is with all of a stage
abbrev pub AreCounted : ResolvedStage → Type 0
AreCounted stage = All IsCounted stage.instructions

-- what the code has of some instructions, none of which is refused
pub record IsDraft (known : Known) (args : Values) (is : List Instruction) (draft : Draft) : Type 0 where
  pub outer : draft.outer ≡ outer_scope args is
  pub names : draft.names ≡ stage_names is
  pub stages : with_last draft.stages draft.last ≡ stages_of known args is
  pub few : length draft.names ≤ most_stages
  pub none : draft.names ≡ [] → draft.last ≡ None
  pub first : draft.last ≡ None → draft.stages ≡ []
  pub counted : All AreCounted draft.stages
  pub last_counted : (stage : ResolvedStage) → draft.last ≡ Some stage → AreCounted stage

-- what going through some instructions answers
abbrev pub Drafts : Known → Values → List Instruction → Result Draft (Fault Rejection) → Type 0
Drafts known args is (Ok draft) = (first_refusal known args [] is ≡ None) × IsDraft known args is draft
Drafts known args is (Err (Because refusal)) = first_refusal known args [] is ≡ Some refusal
Drafts known args is (Err Memory) = Unit {0}
