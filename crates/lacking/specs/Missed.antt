-- What it means that a source is missed, whatever finds it (own).
use Rattle.std.specs.Prelude.{◌≡◌, ◌≢◌, ◌++◌, ℕ, Bool, List, [], ◌∷◌, Some, Err}
use Rattle.std.specs.List.{All, Contains}
use Rattle.trees.specs.TreeMap.{TreeMap, empty_tree}
use Rattle.trees.specs.declared.cause.Cause.TheVariants.{F1}
use Rattle.llb.specs.declared.op.CopyFiles.{CopyFiles}
use Rattle.llb.specs.declared.op.FileSource.{FileSource}
use Rattle.llb.specs.declared.op.FileSource.TheVariants.{Pattern, Data}
use Rattle.plans.specs.Sources.{SourcesValue, source_tree}
use Rattle.plans.specs.Value.{copied_files}
use Rattle.rows.specs.Rows.{Rows}
use Rattle.rows.specs.declared.row.Action.{Action}
use Rattle.rows.specs.declared.row.Action.TheVariants.{Copy}
use Rattle.rows.specs.declared.row.Origin.{Origin}
use Rattle.rows.specs.declared.row.Origin.TheVariants.{Source as SourceOf, Stage as StageOf}
use Rattle.rows.specs.declared.row.Step.{Step}
use Rattle.rows.specs.declared.row.Stage.{Stage}
use Rattle.lacking.specs.Missing.{alone, is_context_path}
use Rattle.lacking.specs.declared.missing.Missed.{Missed}

-- a tree has what a pattern names: a COPY of it alone out of this tree doesn't fail because it isn't there; a file that stands in the instruction is always there
abbrev pub IsThere : TreeMap → FileSource → Type 0
IsThere tree (Pattern text) = copied_files (alone (Pattern text)) empty_tree tree ≢ Err F1
IsThere tree (Data name content) = Unit {0}

-- a pattern among the sources of a COPY, with those before and behind it, is missed: a COPY of it alone out of the same tree fails because it isn't
-- there, and those before it are there; of the tree of a stage, that isn't there before the build, it is the only source
abbrev pub IsMissedFrom : SourcesValue → Origin → List FileSource → List ℕ → List FileSource → Type 0
IsMissedFrom trees (SourceOf source) front text back =
    (tree : TreeMap) × (source_tree trees source ≡ Some tree) × (copied_files (alone (Pattern text)) empty_tree tree ≡ Err F1) × All (IsThere tree) front
IsMissedFrom trees (StageOf number) front text back = (front ≡ []) × (back ≡ [])

-- a source is missed by an instruction: this is a COPY, and it is one of its sources
pub record IsMissedBy (trees : SourcesValue) (action : Action) (missed : Missed) : Type 0 where
  pub files : CopyFiles
  pub origin : Origin
  pub linked : Bool
  pub front : List FileSource
  pub back : List FileSource
  pub copies : action ≡ Copy files (Some origin) linked
  pub sources : files.sources ≡ front ++ Pattern missed.source ∷ back
  pub fails : IsMissedFrom trees origin front missed.source back
  pub place : missed.is_context_path ≡ is_context_path origin missed.source

-- a source is missed on a line of a file: by an instruction on it, of a stage that isn't left out
pub record IsMissedOn (trees : SourcesValue) (rows : Rows) (line : ℕ) (missed : Missed) : Type 0 where
  pub stage : Stage
  pub step : Step
  pub in_rows : Contains rows (Some stage)
  pub in_stage : Contains stage.steps step
  pub on_line : step.line ≡ line
  pub missed_by : IsMissedBy trees step.action missed
