-- All that is due for a file, and the least of it. `resolved` goes through a file up to the first instruction that is refused; here each
-- instruction is judged in its place, whatever is due for those before it.
use Rattle.std.specs.Prelude.{◌≡◌, ◌<◌, ◌≤◌, ◌⊎◌, ◌++◌, ℕ, true, List, ◌∷◌, Option, None}
use Rattle.plain.specs.declared.refusal.Code.TheVariants.{R05, R13}
use Rattle.expand.specs.Reasons.{reason_number}
use Rattle.expand.specs.declared.reason.Reason.TheVariants.{Coded}
use Rattle.expand.specs.declared.reason.Rejection.{Rejection}
use Rattle.instructions.specs.Instruction.{Instruction}
use Rattle.scopes.specs.Evaluate.{Values}
use Rattle.stages.specs.Naming.{Known}
use Rattle.stages.specs.Before.{stage_names}
use Rattle.stages.specs.Due.{IsReasonAfter}
use Rattle.stages.specs.Resolved.{target_of, are_arguments}

-- a target is named that isn't one of the file's stages: R13, without a line
abbrev pub LacksTarget : Option (List ℕ) → List Instruction → Rejection → Type 0
LacksTarget target is refusal = (target_of (stage_names is) target ≡ None) × (refusal ≡ record { reason = Coded R13; line = 0 })

-- a file has no instruction other than ARG, and so no FROM: R05 at line 1
abbrev pub LacksStages : List Instruction → Rejection → Type 0
LacksStages is refusal = (are_arguments is ≡ true) × (refusal ≡ record { reason = Coded R05; line = 1 })

-- there is a reason to refuse one of a file's instructions, after all that stand before it; the refusal has its line
pub record IsDueAtLine (known : Known) (args : Values) (is : List Instruction) (refusal : Rejection) : Type 0 where
  pub before : List Instruction
  pub instruction : Instruction
  pub after : List Instruction
  pub cut : is ≡ before ++ instruction ∷ after
  pub line : refusal.line ≡ instruction.line
  pub due : IsReasonAfter known args before instruction.kind refusal.reason

-- a refusal is due for a file, with these images, build arguments and target
abbrev pub IsDue : Known → Values → Option (List ℕ) → List Instruction → Rejection → Type 0
IsDue known args target is refusal = LacksTarget target is refusal ⊎ (LacksStages is refusal ⊎ IsDueAtLine known args is refusal)

-- one refusal isn't after another: by line, then by the number of its reason
abbrev pub IsNotAfter : Rejection → Rejection → Type 0
IsNotAfter one other = (one.line < other.line) ⊎ ((one.line ≡ other.line) × (reason_number one.reason ≤ reason_number other.reason))

-- of all refusals that are due for a file this is the least, by line, and on a line by number (own)
pub record IsLeastDue (known : Known) (args : Values) (target : Option (List ℕ)) (is : List Instruction) (refusal : Rejection) : Type 0 where
  pub is_due : IsDue known args target is refusal
  pub least : (other : Rejection) → IsDue known args target is other → IsNotAfter refusal other
