-- Which vertices of a graph stand for the instructions of a file, and which lines are behind them (own, after BuildKit's LLB: FROM and
-- COPY --link add a source's vertex, an instruction adds the vertices of the sources that it names, and a stage that is named adds none).
-- All is said of a finished graph, where equal operations on equal inputs are one vertex.
use Rattle.std.specs.Prelude.{◌≡◌, ◌<◌, ◌+◌, ◌⊎◌, ℕ, List, [], ◌∷◌, ◌++◌, true, false, Option, Some, None, slice_get, Contains}
use Rattle.std.specs.List.{AllZip}
use Rattle.llb.specs.declared.op.Op.{Op}
use Rattle.llb.specs.declared.op.Op.TheVariants.{Source as SourceOp, Exec as ExecOp, Copy as CopyOp, MakeDirs as MakeDirsOp, Merge as MergeOp}
use Rattle.llb.specs.declared.op.Source.TheVariants.{Scratch}
use Rattle.llb.specs.declared.op.CopyFiles.{CopyFiles}
use Rattle.llb.specs.declared.vertex.Vertex.{Vertex}
use Rattle.lowering.specs.Meaning.{Rows, listed}
use Rattle.rows.specs.declared.row.Origin.{Origin}
use Rattle.rows.specs.declared.row.Origin.TheVariants.{Source as SourceOf, Stage as StageOf}
use Rattle.rows.specs.declared.row.Action.{Action}
use Rattle.rows.specs.declared.row.Action.TheVariants.{Run, Copy, MakeDirs}
use Rattle.rows.specs.declared.row.Step.{Step}
use Rattle.rows.specs.declared.row.Stage.{Stage}

-- the last vertices of stages by their numbers, which have the stages' trees; none for a stage that is left out
abbrev pub Tips : Type 0
Tips = List (Option ℕ)

-- places: a line, and a vertex that an instruction on this line stands behind
abbrev pub Places : Type 0
Places = List (ℕ × ℕ)

-- the line is among the places of the vertex
abbrev pub HasPlace : Places → ℕ → ℕ → Type 0
HasPlace places line id = Contains places (line, id)

-- How the vertices of places are numbered where a graph has so many before them: each place has a vertex that is there by then, or the
-- next one, and so many are there after all of them. So a vertex comes where its first place stands, and there is no other
abbrev pub AreNumbered : ℕ → Places → ℕ → Type 0
AreNumbered before [] after = after ≡ before
AreNumbered before (place ∷ places) after =
    ((place.1 < before) × AreNumbered before places after) ⊎ ((place.1 ≡ before) × AreNumbered (before + 1) places after)

-- the vertex with this number has this operation on these inputs
abbrev pub IsVertex : List Vertex → Op → List ℕ → ℕ → Type 0
IsVertex vertices op inputs id = slice_get vertices id ≡ Some (record { op = op; inputs = inputs })

-- the vertex with this number is what is named: that of the source, or the last one of the stage
abbrev pub IsOrigin : List Vertex → Tips → Origin → ℕ → Type 0
IsOrigin vertices tips (SourceOf source) id = IsVertex vertices (SourceOp source) [] id
IsOrigin vertices tips (StageOf number) id = slice_get tips number ≡ Some (Some id)

-- the places of what an instruction names: one for a source, none for a stage
abbrev pub origin_places : ℕ → Origin → ℕ → Places
origin_places line (SourceOf source) id = (line, id) ∷ []
origin_places line (StageOf number) id = []

-- those of all that it names
abbrev pub origins_places : ℕ → List Origin → List ℕ → Places
origins_places line [] ids = []
origins_places line (origin ∷ origins) [] = []
origins_places line (origin ∷ origins) (id ∷ ids) = origin_places line origin id ++ origins_places line origins ids

-- the vertex of an instruction on this line: its operation on a vertex and on what it names
pub record IsOperation (vertices : List Vertex) (tips : Tips) (line base : ℕ) (op : Op) (origins : List Origin) (id : ℕ) (places : Places) : Type 0 where
  pub named : List ℕ
  pub are : AllZip (IsOrigin vertices tips) origins named
  pub is : IsVertex vertices op (base ∷ named) id
  pub all : places ≡ origins_places line origins named ++ (line, id) ∷ []

-- the vertices of a linked copy: a copy onto the empty tree, and the merge of the tree before it with what was copied
pub record IsLinked (vertices : List Vertex) (tips : Tips) (line base : ℕ) (files : CopyFiles) (origins : List Origin) (id : ℕ)
    (places : Places) : Type 0 where
  pub scratch : ℕ
  pub copy : ℕ
  pub copied : Places
  pub empty : IsVertex vertices (SourceOp Scratch) [] scratch
  pub copies : IsOperation vertices tips line scratch (CopyOp files) origins copy copied
  pub merges : IsVertex vertices MergeOp (base ∷ (copy ∷ [])) id
  pub all : places ≡ (line, scratch) ∷ (copied ++ (line, id) ∷ [])

-- the last vertex of an instruction after the vertex `base`, and all its places
abbrev pub IsLowered : List Vertex → Tips → ℕ → ℕ → Action → ℕ → Places → Type 0
IsLowered vertices tips line base (Run exec from) id places = IsOperation vertices tips line base (ExecOp exec) from id places
IsLowered vertices tips line base (Copy files from false) id places = IsOperation vertices tips line base (CopyOp files) (listed from) id places
IsLowered vertices tips line base (Copy files from true) id places = IsLinked vertices tips line base files (listed from) id places
IsLowered vertices tips line base (MakeDirs path) id places = IsOperation vertices tips line base (MakeDirsOp path) [] id places

-- the last vertex of some instructions, each after the one before it, and all their places
abbrev pub AreLowered : List Vertex → Tips → ℕ → List Step → ℕ → Places → Type 0
AreLowered vertices tips base [] last places = (last ≡ base) × (places ≡ [])
AreLowered vertices tips base (step ∷ steps) last places =
    (next : ℕ) × (here : Places) × (there : Places) × IsLowered vertices tips step.line base step.action next here
    × AreLowered vertices tips next steps last there × (places ≡ here ++ there)

-- the last vertex of a stage, and its places: those of its FROM and of its instructions
pub record IsStageLowered (vertices : List Vertex) (tips : Tips) (stage : Stage) (last : ℕ) (places : Places) : Type 0 where
  pub base : ℕ
  pub others : Places
  pub begins : IsOrigin vertices tips stage.base base
  pub steps : AreLowered vertices tips base stage.steps last others
  pub all : places ≡ origin_places stage.line stage.base base ++ others

-- the same of a row, which may be left out
abbrev pub IsRowLowered : List Vertex → Tips → Option Stage → Option ℕ → Places → Type 0
IsRowLowered vertices tips None tip places = (tip ≡ None) × (places ≡ [])
IsRowLowered vertices tips (Some stage) tip places = (last : ℕ) × (tip ≡ Some last) × IsStageLowered vertices tips stage last places

-- the last vertices of some rows, beside those of the rows before them, and all their places
abbrev pub AreRowsLowered : List Vertex → Tips → Rows → Tips → Places → Type 0
AreRowsLowered vertices tips [] lasts places = (lasts ≡ []) × (places ≡ [])
AreRowsLowered vertices tips (row ∷ rows) lasts places =
    (tip : Option ℕ) × (more : Tips) × (here : Places) × (there : Places) × IsRowLowered vertices tips row tip here
    × AreRowsLowered vertices (tips ++ tip ∷ []) rows more there × (lasts ≡ tip ∷ more) × (places ≡ here ++ there)
