-- What evaluating a table answers, by what its stages answer.
use Rattle.std.specs.Prelude.{◌≡◌, ◌≤◌, ℕ, Bool, List, Option, Result, Ok, Err, length, slice_get, refl}
use Rattle.std.specs.FinMap.{len}
use Rattle.std.proofs.Common.{sym, ◌∙◌, ap, subst, inl}
use Rattle.plain.specs.declared.fault.Fault.{Fault}
use Rattle.plain.specs.declared.fault.Fault.TheVariants.{Because, Memory}
use Rattle.expand.specs.declared.reason.Rejection.{Rejection}
use Rattle.trees.specs.TreeMap.{TreeMap}
use Rattle.plans.specs.Images.{ImagesValue}
use Rattle.plans.specs.Sources.{SourcesValue}
use Rattle.rows.specs.declared.row.Stage.{Stage}
use Rattle.scopes.specs.Evaluate.{Values}
use Rattle.scopes.specs.Scope.{value_in}
use Rattle.scopes.specs.declared.declaration.Declaration.{Declaration}
use Rattle.stages.specs.Needed.{AreNeeded}
use Rattle.stages.specs.Table.{TableValue}
use Rattle.stages.specs.declared.stage.ResolvedStage.{ResolvedStage}
use Rattle.imageconfig.specs.declared.config.Config.{Config}
use Rattle.evaluation.specs.Evaluated.{no_stage, IsMade, EvaluatesTable, config_of, config_at}
use Rattle.evaluation.specs.Images.{ImageNames, AreSources}
use Rattle.evaluation.specs.PrivateKept.{IsKept, AreKept}
use Rattle.evaluation.specs.PrivateMaking.{MakesWith, Makes}
use Rattle.evaluation.specs.Stages.{stages_from}
use Rattle.evaluation.specs.declared.evaluated.Evaluated.{Evaluated}
use Rattle.evaluation.specs.declared.state.State.{State}
use Rattle.evaluation.specs.declared.walk.Walk.{Walk}
use Rattle.evaluation.proofs.WantedFacts.{index_same}

-- what a table answers

pub answers_none : (args : Values) (images : ImagesValue Config) (context : TreeMap) (table : TableValue) → EvaluatesTable args images context table (Err Memory)
answers_none args images context table = tt

pub answers_reported : (args : Values) (images : ImagesValue Config) (context : TreeMap) (table : TableValue) (outer : List Declaration) (stages : List ResolvedStage) (number : ℕ) (needed : List Bool) (fault : Fault Rejection)
    → outer ≡ table.outer → stages ≡ table.stages → AreNeeded table.stages table.target needed → AreKept args (value_in outer) images needed number stages (Err fault)
    → EvaluatesTable args images context table (Err fault)
unfolding AreKept
answers_reported args images context table outer stages number needed (Because refusal) same_outer same are reported = (
  needed,
  are,
  ap (λ (ds : List Declaration). stages_from args (value_in ds) images needed (Ok no_stage) table.stages) (sym same_outer)
      ∙ (ap (λ (ss : List ResolvedStage). stages_from args (value_in outer) images needed (Ok no_stage) ss) (sym same) ∙ reported),
)
answers_reported args images context table outer stages number needed Memory same_outer same are reported = tt

pub made_with : (images : ImagesValue Config) (context : TreeMap) (number : ℕ) (rows : List (Option Stage)) (names : ImageNames) (config : Config) (sources : SourcesValue)
    → AreSources context images names sources → len sources.images ≤ length names
    → MakesWith images context number rows names config (Ok (record { rows = rows; target = number; config = config; sources = sources }))
unfolding MakesWith
made_with images context number rows names config sources are few = record { same_rows = refl; same_target = refl; same_config = refl; are_sources = are; few = few }

pub made_with_none : (images : ImagesValue Config) (context : TreeMap) (number : ℕ) (rows : List (Option Stage)) (names : ImageNames) (config : Config)
    → MakesWith images context number rows names config (Err Memory)
unfolding MakesWith
made_with_none images context number rows names config = tt

pub made_none : (images : ImagesValue Config) (context : TreeMap) (number : ℕ) (walk : Walk) → Makes images context number walk (Err Memory)
unfolding Makes
made_none images context number walk = tt

pub made_of : (images : ImagesValue Config) (context : TreeMap) (number : ℕ) (walk : Walk) (states : List (Option State)) (config : Config) (result : Result Evaluated (Fault Rejection)) → states ≡ walk.states → config ≡ config_at states number
    → MakesWith images context number walk.rows walk.names config result → Makes images context number walk result
unfolding MakesWith Makes
made_of images context number walk states config (Ok made) same is h =
    (record { rows = h.same_rows; target = h.same_target; config = h.same_config ∙ (is ∙ ap (λ (ss : List (Option State)). config_at ss number) same); sources = h.are_sources }, h.few)
made_of images context number walk states config (Err (Because refusal)) same is h = absurd h
made_of images context number walk states config (Err Memory) same is h = tt

config_kept : (kept states : List (Option State)) (number : ℕ) → slice_get kept number ≡ slice_get states number → config_at kept number ≡ config_at states number
config_kept kept states number same = ap config_of (index_same kept states number same)

-- what is made of what is kept of the stages is made of them
pub made_of_kept : (needed : List Bool) (stages : List ResolvedStage) (images : ImagesValue Config) (context : TreeMap) (number from : ℕ) (walk kept : Walk) (made : Evaluated)
    → IsKept needed stages number from walk kept → IsMade images context number kept made → IsMade images context number walk made
made_of_kept needed stages images context number from walk kept made is h = record {
  rows = h.rows ∙ is.rows;
  target = h.target;
  config = h.config ∙ config_kept kept.states walk.states number (is.each number (inl refl));
  sources = subst (λ (names : ImageNames). AreSources context images names made.sources) is.names h.sources;
}

pub answers_made : (args : Values) (images : ImagesValue Config) (context : TreeMap) (table : TableValue) (outer : List Declaration) (stages : List ResolvedStage) (target : ℕ) (needed : List Bool) (kept : Walk) (result : Result Evaluated (Fault Rejection))
    → outer ≡ table.outer → stages ≡ table.stages → target ≡ table.target → AreNeeded table.stages table.target needed → AreKept args (value_in outer) images needed target stages (Ok kept)
    → Makes images context target kept result → EvaluatesTable args images context table result
unfolding AreKept Makes
answers_made args images context table outer stages target needed kept (Ok made) same_outer same same_target are went is = (
  needed,
  are,
  (
    went.0,
    ap (λ (ds : List Declaration). stages_from args (value_in ds) images needed (Ok no_stage) table.stages) (sym same_outer)
        ∙ (ap (λ (ss : List ResolvedStage). stages_from args (value_in outer) images needed (Ok no_stage) ss) (sym same) ∙ went.1),
    subst (λ (n : ℕ). IsMade images context n went.0 made) same_target
        (made_of_kept needed stages images context target (length stages) went.0 kept made went.2 is.0),
  ),
)
answers_made args images context table outer stages target needed kept (Err (Because refusal)) same_outer same same_target are went is = absurd is
answers_made args images context table outer stages target needed kept (Err Memory) same_outer same same_target are went is = tt
