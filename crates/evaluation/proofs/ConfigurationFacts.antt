-- The configuration that a stage's instructions leave is what its lines make of the one that it begins with.
use Rattle.std.specs.Prelude.{◌≡◌, List, [], ◌∷◌, Option, None, Result, Ok, refl}
use Rattle.std.proofs.Common.{◌∙◌, ap}
use Rattle.expand.specs.declared.reason.Reason.{Reason}
use Rattle.expand.specs.declared.reason.Rejection.{Rejection}
use Rattle.instructions.specs.Reason.{reason}
use Rattle.instructions.specs.declared.instruction.InstructionKind.{InstructionKind}
use Rattle.instructions.specs.declared.instruction.InstructionKind.TheVariants.{From, Arg, Env, Label, Expose, User, Workdir, StopSignal, Volume, Shell, Cmd, Entrypoint, Run, Copy}
use Rattle.scopes.specs.Evaluate.{Values}
use Rattle.scopes.specs.Scope.{value_in}
use Rattle.stages.specs.declared.stage.ResolvedInstruction.{ResolvedInstruction}
use Rattle.imageconfig.specs.Stage.{unless_due, stage_config}
use Rattle.imageconfig.specs.Steps as config
use Rattle.imageconfig.specs.declared.config.Config.{Config}
use Rattle.evaluation.specs.Configuration.{in_scope}
use Rattle.evaluation.specs.Instruction.{after, due, fault}
use Rattle.evaluation.specs.Stages.{with_instruction, next_instruction, instructions_from}
use Rattle.evaluation.specs.declared.stage.Progress.{Progress}
use Rattle.evaluation.specs.declared.state.State.{State}
use Rattle.evaluation.proofs.FoldFacts.{went}
use Rattle.evaluation.proofs.ReasonFacts.{goes}

-- if there is no reason to refuse an instruction, there is none for the configuration
config_none : (args : Values) (s : State) (kind : InstructionKind) → reason (due args s kind) (fault args s kind) ≡ None → reason (config.due (value_in s.scope) s.config kind) (config.fault (value_in s.scope) kind) ≡ None
config_none args s (From image name) h = refl
config_none args s (Arg arguments) h = refl
config_none args s (Env assignments) h = h
config_none args s (Label labels) h = h
config_none args s (Expose ports) h = h
config_none args s (User user) h = h
config_none args s (Workdir path) h = h
config_none args s (StopSignal signal) h = h
config_none args s (Volume paths) h = h
config_none args s (Shell words) h = refl
config_none args s (Cmd command) h = refl
config_none args s (Entrypoint command) h = refl
config_none args s (Run mounts command) h = refl
config_none args s (Copy sources destination flags) h = refl

abbrev well_of : {X : Type 0} → X → Result X Rejection
well_of x = Ok x

same_ok : {X : Type 0} (x y : X) → well_of x ≡ well_of y → x ≡ y
same_ok x y e = cc

abbrev config_in : Progress → Result Config Rejection
config_in p = Ok p.state.config

pub config_made : (args outer : Values) (rs : List ResolvedInstruction) (p q : Progress) → instructions_from args outer (Ok p) rs ≡ Ok q
    → stage_config p.state.config (in_scope args outer p.state rs) ≡ Ok q.state.config
config_made args outer [] p q h = ap config_in (same_ok p q h)
config_made args outer (r ∷ rs) p q h =
    let kind = r.instruction.kind in
    let made = with_instruction args outer p r in
    let step = went (next_instruction args outer) (next_instruction args outer p r) rs q h in
    let on = goes args outer p step.next r step.is in
    let rest = config_made args outer rs made q (ap (λ (x : Progress). instructions_from args outer (Ok x) rs) on.is ∙ step.on) in
    ap (λ (why : Option Reason). unless_due why r.instruction.line (stage_config (config.changed (value_in p.state.scope) p.state.config kind) (in_scope args outer (after args outer p.state kind) rs)))
    (config_none args p.state kind on.free.none) ∙ rest
