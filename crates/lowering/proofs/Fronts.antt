-- What stands in a graph stands in each larger one.
use Rattle.std.proofs.Common.{◌≡◌, ℕ, zero, suc, true, false, List, [], ◌∷◌, ◌++◌, Option, Some, None, sym, ap, ◌∙◌, append_assoc, append-nil}
use Rattle.std.specs.Prelude.{slice_get}
use Rattle.std.specs.List.{AllZip}
use Rattle.llb.specs.declared.op.Op.{Op}
use Rattle.llb.specs.declared.op.CopyFiles.{CopyFiles}
use Rattle.llb.specs.declared.vertex.Vertex.{Vertex}
use Rattle.rows.specs.declared.row.Origin.{Origin}
use Rattle.rows.specs.declared.row.Origin.TheVariants.{Source as SourceOf, Stage as StageOf}
use Rattle.rows.specs.declared.row.Action.{Action}
use Rattle.rows.specs.declared.row.Action.TheVariants.{Run, Copy, MakeDirs}
use Rattle.rows.specs.declared.row.Step.{Step}
use Rattle.rows.specs.declared.row.Stage.{Stage}
use Rattle.lowering.specs.Meaning.{Rows}
use Rattle.lowering.specs.Vertices.{Tips, Places, IsVertex, IsOrigin, IsOperation, IsLinked, IsLowered, AreLowered, IsStageLowered, IsRowLowered}
use Rattle.lowering.specs.Vertices.{AreRowsLowered}
use Rattle.lowering.specs.PrivateGrowth.{IsFront}

pub slice_get-kept : {X : Type 0} (xs more : List X) (y : X) (k : ℕ) → slice_get xs k ≡ Some y → slice_get (xs ++ more) k ≡ Some y
slice_get-kept [] more y k e = absurd cc
slice_get-kept (x ∷ xs) more y zero e = e
slice_get-kept (x ∷ xs) more y (suc k) e = slice_get-kept xs more y k e

pub front_all : (vs : List Vertex) → IsFront vs vs
front_all vs = ([], sym (append-nil vs))

pub front_then : (a b c : List Vertex) → IsFront a b → IsFront b c → IsFront a c
front_then a b c first second = (first.0 ++ second.0, second.1 ∙ (ap (λ vs. vs ++ second.0) first.1 ∙ append_assoc a first.0 second.0))

pub vertex_kept : (a b : List Vertex) (op : Op) (inputs : List ℕ) (id : ℕ) → IsFront a b → IsVertex a op inputs id → IsVertex b op inputs id
vertex_kept a b op inputs id front is = ap (λ vs. slice_get vs id) front.1 ∙ slice_get-kept a front.0 (record { op = op; inputs = inputs }) id is

pub origin_kept : (a b : List Vertex) (tips : Tips) (origin : Origin) (id : ℕ) → IsFront a b → IsOrigin a tips origin id → IsOrigin b tips origin id
origin_kept a b tips (SourceOf source) id front is = vertex_kept a b _ [] id front is
origin_kept a b tips (StageOf number) id front is = is

pub origins_kept : (a b : List Vertex) (tips : Tips) (origins : List Origin) (ids : List ℕ) → IsFront a b → AllZip (IsOrigin a tips) origins ids
    → AllZip (IsOrigin b tips) origins ids
origins_kept a b tips [] [] front are = are
origins_kept a b tips [] (id ∷ ids) front are = are
origins_kept a b tips (origin ∷ origins) [] front are = are
origins_kept a b tips (origin ∷ origins) (id ∷ ids) front are = (origin_kept a b tips origin id front are.0, origins_kept a b tips origins ids front are.1)

pub operation_kept : (a b : List Vertex) (tips : Tips) (line base : ℕ) (op : Op) (origins : List Origin) (id : ℕ) (places : Places) → IsFront a b
    → IsOperation a tips line base op origins id places → IsOperation b tips line base op origins id places
operation_kept a b tips line base op origins id places front is =
    record {
      named = is.named;
      are = origins_kept a b tips origins is.named front is.are;
      is = vertex_kept a b op (base ∷ is.named) id front is.is;
      all = is.all;
    }

linked_kept : (a b : List Vertex) (tips : Tips) (line base : ℕ) (files : CopyFiles) (origins : List Origin) (id : ℕ) (places : Places) → IsFront a b
    → IsLinked a tips line base files origins id places → IsLinked b tips line base files origins id places
linked_kept a b tips line base files origins id places front is = record {
  scratch = is.scratch;
  copy = is.copy;
  copied = is.copied;
  empty = vertex_kept a b _ [] is.scratch front is.empty;
  copies = operation_kept a b tips line is.scratch _ origins is.copy is.copied front is.copies;
  merges = vertex_kept a b _ (base ∷ (is.copy ∷ [])) id front is.merges;
  all = is.all;
}

pub lowered_kept : (a b : List Vertex) (tips : Tips) (line base : ℕ) (action : Action) (id : ℕ) (places : Places) → IsFront a b
    → IsLowered a tips line base action id places → IsLowered b tips line base action id places
lowered_kept a b tips line base (Run exec from) id places front is = operation_kept a b tips line base _ from id places front is
lowered_kept a b tips line base (Copy files from false) id places front is = operation_kept a b tips line base _ _ id places front is
lowered_kept a b tips line base (Copy files from true) id places front is = linked_kept a b tips line base files _ id places front is
lowered_kept a b tips line base (MakeDirs path) id places front is = operation_kept a b tips line base _ [] id places front is

pub steps_kept : (a b : List Vertex) (tips : Tips) (base : ℕ) (steps : List Step) (last : ℕ) (places : Places) → IsFront a b
    → AreLowered a tips base steps last places → AreLowered b tips base steps last places
steps_kept a b tips base [] last places front are = are
steps_kept a b tips base (step ∷ steps) last places front are = (
  are.0,
  are.1,
  are.2,
  lowered_kept a b tips step.line base step.action are.0 are.1 front are.3,
  steps_kept a b tips are.0 steps last are.2 front
      are.4,
  are.5,
)

stage_kept : (a b : List Vertex) (tips : Tips) (stage : Stage) (last : ℕ) (places : Places) → IsFront a b → IsStageLowered a tips stage last places
    → IsStageLowered b tips stage last places
stage_kept a b tips stage last places front is = record {
  base = is.base;
  others = is.others;
  begins = origin_kept a b tips stage.base is.base front is.begins;
  steps = steps_kept a b tips is.base stage.steps last is.others front is.steps;
  all = is.all;
}

row_kept : (a b : List Vertex) (tips : Tips) (row : Option Stage) (tip : Option ℕ) (places : Places) → IsFront a b
    → IsRowLowered a tips row tip places → IsRowLowered b tips row tip places
row_kept a b tips None tip places front is = is
row_kept a b tips (Some stage) tip places front is = (is.0, is.1, stage_kept a b tips stage is.0 places front is.2)

pub rows_kept : (a b : List Vertex) (tips : Tips) (rows : Rows) (lasts : Tips) (places : Places) → IsFront a b
    → AreRowsLowered a tips rows lasts places → AreRowsLowered b tips rows lasts places
rows_kept a b tips [] lasts places front are = are
rows_kept a b tips (row ∷ rows) lasts places front are =
    (are.0, are.1, are.2, are.3, row_kept a b tips row are.0 are.2 front are.4, rows_kept a b (tips ++ are.0 ∷ []) rows are.1 are.3 front are.5, are.6, are.7)
