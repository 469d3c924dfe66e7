-- What a file has to be that is lowered. Evaluation makes such rows of a Dockerfile that it doesn't refuse.
use Rattle.std.specs.Prelude.{◌≡◌, ◌+◌, ℕ, [], ◌∷◌, ◌++◌, length, Option, Some, None, IsTrue, is_some, slice_get}
use Rattle.std.specs.List.{All}
use Rattle.llb.specs.WellFormed.{is_well_formed_on}
use Rattle.llb.specs.Places.{IsLine}
use Rattle.llb.specs.declared.op.Op.TheVariants.{Source as SourceOp, Exec as ExecOp, Copy as CopyOp, MakeDirs as MakeDirsOp}
use Rattle.plans.specs.Sources.{SourcesValue, source_tree}
use Rattle.rows.specs.Rows.{Rows, listed}
use Rattle.rows.specs.declared.row.Origin.{Origin}
use Rattle.rows.specs.declared.row.Origin.TheVariants.{Source as SourceOf, Stage as StageOf}
use Rattle.rows.specs.declared.row.Action.{Action}
use Rattle.rows.specs.declared.row.Action.TheVariants.{Run, Copy, MakeDirs}
use Rattle.rows.specs.declared.row.Step.{Step}
use Rattle.rows.specs.declared.row.Stage.{Stage}

-- all that an instruction names is so
abbrev pub NamesOnly : (Origin → Type 0) → Action → Type 0
NamesOnly P (Run exec from) = All P from
NamesOnly P (Copy files from linked) = All P (listed from)
NamesOnly P (MakeDirs path) = Unit {0}

-- all that a stage names is so
pub record StageNames (P : Origin → Type 0) (stage : Stage) : Type 0 where
  pub base : P stage.base
  pub steps : All (λ step. NamesOnly P step.action) stage.steps

-- all that a row names is so
abbrev pub RowNames : (Origin → Type 0) → Option Stage → Type 0
RowNames P None = Unit {0}
RowNames P (Some stage) = StageNames P stage

-- after some rows a well-formed source may be named, and a stage among them that isn't left out
abbrev pub IsNamed : Rows → Origin → Type 0
IsNamed before (SourceOf source) = IsTrue (is_well_formed_on (SourceOp source) 0)
IsNamed before (StageOf number) = (stage : Stage) × (slice_get before number ≡ Some (Some stage))

-- what is named is a stage, or a source that has its tree
abbrev pub HasTree : SourcesValue → Origin → Type 0
HasTree sources (SourceOf source) = IsTrue (is_some (source_tree sources source))
HasTree sources (StageOf number) = Unit {0}

-- the operation of an instruction is well formed on the tree before it and those that it names
abbrev pub IsAction : Action → Type 0
IsAction (Run exec from) = IsTrue (is_well_formed_on (ExecOp exec) (length from + 1))
IsAction (Copy files from linked) = IsTrue (is_well_formed_on (CopyOp files) (length (listed from) + 1))
IsAction (MakeDirs path) = IsTrue (is_well_formed_on (MakeDirsOp path) 1)

-- an instruction has a line and a well-formed operation
pub record IsStep (step : Step) : Type 0 where
  pub line : IsLine step.line
  pub action : IsAction step.action

-- a stage has a line and well-formed instructions
pub record IsStage (stage : Stage) : Type 0 where
  pub line : IsLine stage.line
  pub steps : All IsStep stage.steps

-- a row is left out, or a well-formed stage that names only what may be named after the rows before it
abbrev pub IsRow : Rows → Option Stage → Type 0
IsRow before None = Unit {0}
IsRow before (Some stage) = IsStage stage × StageNames (IsNamed before) stage

-- each row of a file is well formed after those before it
abbrev pub IsWellFormed : Rows → Type 0
IsWellFormed rows = (before after : Rows) (row : Option Stage) → rows ≡ before ++ row ∷ after → IsRow before row

-- how many instructions a row has
abbrev pub row_steps : Option Stage → ℕ
row_steps None = 0
row_steps (Some stage) = length stage.steps

-- how many instructions a file has that give a tree
abbrev pub count_of_steps : Rows → ℕ
count_of_steps [] = 0
count_of_steps (row ∷ rows) = row_steps row + count_of_steps rows
