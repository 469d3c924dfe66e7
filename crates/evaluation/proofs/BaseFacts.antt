-- The configuration at a needed stage's end is what its lines make of its base's.
use Rattle.std.specs.Prelude.{◌≡◌, ◌<◌, ℕ, Bool, true, List, [], Option, Some, None, Result, Ok, slice_get, slice_index_or, refl}
use Rattle.std.specs.FinMap.{get}
use Rattle.std.proofs.Common.{sym, ◌∙◌, ap}
use Rattle.std.proofs.lemmas.Option.{slice_get_within, get_or_from_slice_get}
use Rattle.plain.specs.Marks.{is_marked}
use Rattle.expand.specs.declared.reason.Rejection.{Rejection}
use Rattle.llb.specs.declared.op.Source.{Source}
use Rattle.llb.specs.declared.op.Source.TheVariants.{Scratch, Context, Image}
use Rattle.plans.specs.Images.{ImagesValue}
use Rattle.plans.specs.declared.images.Image as image
use Rattle.rows.specs.declared.row.Origin.{Origin}
use Rattle.rows.specs.declared.row.Origin.TheVariants.{Source as SourceOf, Stage as StageOf}
use Rattle.scopes.specs.Evaluate.{Values}
use Rattle.scopes.specs.Scope.{value_in}
use Rattle.stages.specs.Table.{TableValue, IsTable, IsBefore}
use Rattle.stages.specs.declared.stage.ResolvedInstruction.{ResolvedInstruction}
use Rattle.stages.specs.declared.stage.ResolvedStage.{ResolvedStage}
use Rattle.imageconfig.specs.Stage.{stage_config}
use Rattle.imageconfig.specs.Steps.{child_of}
use Rattle.imageconfig.specs.declared.config.Config.{Config}
use Rattle.evaluation.specs.Configuration.{in_scope, found_config, source_config, base_config}
use Rattle.evaluation.specs.Evaluated.{evaluated, config_of, config_at}
use Rattle.evaluation.specs.Reached.{ComesTo}
use Rattle.evaluation.specs.Stages.{instructions_from, begun}
use Rattle.evaluation.specs.State.{found_state, ended_state, source_state, start}
use Rattle.evaluation.specs.declared.stage.Progress.{Progress}
use Rattle.evaluation.specs.declared.state.State.{State}
use Rattle.evaluation.specs.declared.walk.Walk.{Walk}
use Rattle.evaluation.proofs.ConfigurationFacts.{config_made}
use Rattle.evaluation.proofs.EndFacts.{ends, some_same}

-- what a stage begins with

found_is : (found : Option (image.Image Config)) → (found_state found).config ≡ found_config found
found_is None = refl
found_is (Some found) = refl

source_is : (images : ImagesValue Config) (source : Source) → (source_state images source).config ≡ source_config images source
source_is images Scratch = refl
source_is images Context = refl
source_is images (Image name) = found_is (get images name)

ended_is : (state : Option State) → (ended_state state).config ≡ child_of (config_of state)
ended_is None = refl
ended_is (Some state) = refl

base_is : (images : ImagesValue Config) (states : List (Option State)) (base : Origin) → (start images states base).config ≡ base_config images states base
base_is images states (SourceOf source) = source_is images source
base_is images states (StageOf number) = ended_is (slice_index_or states number None)

start_same : (images : ImagesValue Config) (states others : List (Option State)) (number : ℕ) (base : Origin) → IsBefore number base
    → ((other : ℕ) → other < number → slice_index_or states other None ≡ slice_index_or others other None) → start images states base ≡ start images others base
start_same images states others number (SourceOf source) before same = refl
start_same images states others number (StageOf other) before same = ap ended_state (same other before)

-- a stage

record Begins (args : Values) (images : ImagesValue Config) (needed : List Bool) (table : TableValue) (walk : Walk) (number : ℕ) (stage : ResolvedStage) : Type 0 where
  pub comes : ComesTo args images needed table number [] (start images walk.states stage.base)
  pub made : stage_config (base_config images walk.states stage.base) (in_scope args (value_in table.outer) (start images walk.states stage.base) stage.instructions) ≡ Ok (config_at walk.states number)

abbrev well_of : State → Result Config Rejection
well_of s = Ok s.config

abbrev well_end : Option State → Result Config Rejection
well_end o = Ok (config_of o)

made_by : (args outer : Values) (rs : List ResolvedInstruction) (p q : Progress) (first last : State) (config : Config) → instructions_from args outer (Ok p) rs ≡ Ok q → p.state ≡ first
    → q.state ≡ last → first.config ≡ config → stage_config config (in_scope args outer first rs) ≡ Ok last.config
made_by args outer rs p q first last config went begins ends is =
    ap (λ (c : Config). stage_config c (in_scope args outer first rs)) (sym is)
    ∙ (ap (λ (s : State). stage_config s.config (in_scope args outer s rs)) (sym begins)
    ∙ (config_made args outer rs p q went ∙ ap well_of ends))

begins_by : (args : Values) (images : ImagesValue Config) (needed : List Bool) (table : TableValue) (walk : Walk) (number : ℕ) (stage : ResolvedStage) → IsTable table
    → evaluated args images needed table ≡ Ok walk → is_marked needed number ≡ true → slice_get table.stages number ≡ Some stage → Begins args images needed table walk number stage
begins_by args images needed table walk number stage is e marked there =
    let outer = value_in table.outer in
    let ended = ends args images needed table walk number e (slice_get_within table.stages number stage there) marked in
    let comes = ended.comes in
    let same : ended.stage ≡ stage = some_same ended.stage stage (sym ended.stage_there ∙ there) in
    let here : comes.stage ≡ stage = ended.stage_is ∙ same in
    let first = begun images comes.walk comes.stage in
    let begins : first.state ≡ start images walk.states stage.base =
    ap (λ (s : ResolvedStage). start images comes.walk.states s.base) here
    ∙ start_same images comes.walk.states walk.states number stage.base (is.each number stage there).base ended.earlier in
    let went : instructions_from args outer (Ok first) stage.instructions ≡ Ok comes.progress =
    ap (λ (s : ResolvedStage). instructions_from args outer (Ok first) s.instructions) (sym same) ∙ comes.went in
    let made =
    made_by args outer stage.instructions first comes.progress (start images walk.states stage.base) ended.state (base_config images walk.states stage.base) went begins comes.is
    (base_is images walk.states stage.base) in
    record {
      comes = record {
        earlier = comes.earlier;
        stage = comes.stage;
        later = comes.later;
        stages = comes.stages;
        at = comes.at;
        marked = comes.marked;
        walk = comes.walk;
        walked = comes.walked;
        rest = comes.stage.instructions;
        instructions = refl;
        progress = first;
        went = refl;
        is = begins;
      };
      made = made ∙ ap well_end (sym (get_or_from_slice_get walk.states number (Some ended.state) None ended.there));
    }

pub stage_begins : (args : Values) (images : ImagesValue Config) (needed : List Bool) (table : TableValue) (walk : Walk) (number : ℕ) (stage : ResolvedStage) → IsTable table
    → evaluated args images needed table ≡ Ok walk → is_marked needed number ≡ true → slice_get table.stages number ≡ Some stage
    → ComesTo args images needed table number [] (start images walk.states stage.base)
stage_begins args images needed table walk number stage is e marked there = (begins_by args images needed table walk number stage is e marked there).comes

pub stage_makes : (args : Values) (images : ImagesValue Config) (needed : List Bool) (table : TableValue) (walk : Walk) (number : ℕ) (stage : ResolvedStage) → IsTable table
    → evaluated args images needed table ≡ Ok walk → is_marked needed number ≡ true → slice_get table.stages number ≡ Some stage
    → stage_config (base_config images walk.states stage.base) (in_scope args (value_in table.outer) (start images walk.states stage.base) stage.instructions) ≡ Ok (config_at walk.states number)
stage_makes args images needed table walk number stage is e marked there = (begins_by args images needed table walk number stage is e marked there).made
