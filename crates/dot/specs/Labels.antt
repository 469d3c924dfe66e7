-- What stands on the vertices and at the edges of a drawing (own, after BuildKit's `buildctl debug dump-llb --dot` and `ninja -t graph`).
use Rattle.std.specs.Prelude.{ℕ, ◌+◌, ◌-◌, ◌==◌, Bool, true, false, Option, Some, None, List, [], ◌∷◌, ◌++◌, codes, drop, nat_eq, slice_get, slice_index_or, if◌then◌else◌}
use Rattle.std.specs.Fmt.{decimal}
use Rattle.std.specs.List.{flat_map, list_any, starts_with}
use Rattle.ascii.specs.Pieces.{first_piece}
use Rattle.paths.specs.Path.{text_of}
use Rattle.llb.specs.declared.op.Bind.{Bind}
use Rattle.llb.specs.declared.op.Op.{Op}
use Rattle.llb.specs.declared.op.Op.TheVariants.{Source as SourceOp, Exec as ExecOp, Copy as CopyOp, MakeDirs as MakeDirsOp, Merge as MergeOp}
use Rattle.llb.specs.declared.op.Source.{Source}
use Rattle.llb.specs.declared.op.Source.TheVariants.{Scratch, Context, Image}
use Rattle.llb.specs.Places.{least_line}
use Rattle.dot.specs.Quoted.{shown, rows}

-- the titles of instructions by the numbers of their lines, as `[build 2/5] RUN make`
abbrev pub Titles : Type 0
Titles = List (Option (List ℕ))

-- ---- vertices

-- the tree that a source is
abbrev pub source_text : Source → List ℕ
source_text Scratch = codes "scratch"
source_text Context = codes "context"
source_text (Image name) = codes "image " ++ name

-- the title of the least of some lines
abbrev pub title_at : Titles → List ℕ → Option (List ℕ)
title_at titles lines = slice_index_or titles (least_line lines) None

-- a title, or this word if there is none
abbrev pub title_or : Option (List ℕ) → List ℕ → List ℕ
title_or None word = word
title_or (Some title) word = title

-- what a vertex with these lines is called: a source by what it is, a merge as such, and another operation as the instruction of its least line
abbrev pub vertex_text : Titles → List ℕ → Op → List ℕ
vertex_text titles lines (SourceOp source) = source_text source
vertex_text titles lines (ExecOp exec) = title_or (title_at titles lines) (codes "RUN")
vertex_text titles lines (CopyOp files) = title_or (title_at titles lines) (codes "COPY")
vertex_text titles lines (MakeDirsOp path) = title_or (title_at titles lines) (codes "WORKDIR")
vertex_text titles lines MergeOp = codes "merge"

-- numbers, each after a comma
abbrev pub after_commas : List ℕ → List ℕ
after_commas lines = flat_map (λ line. codes ", " ++ decimal line) lines

-- the lines of all instructions that a vertex stands for
abbrev pub lines_text : List ℕ → List ℕ
lines_text [] = []
lines_text (line ∷ []) = codes "line " ++ decimal line
lines_text (line ∷ other ∷ lines) = codes "lines " ++ (decimal line ++ after_commas (other ∷ lines))

-- the label of a vertex: what it is called, and then its lines
abbrev pub label : Titles → List ℕ → Op → List ℕ
label titles lines op = rows (vertex_text titles lines op) ++ rows (lines_text lines)

-- the shape of a vertex (BuildKit)
abbrev pub shape_of : Op → List ℕ
shape_of (SourceOp source) = codes "ellipse"
shape_of (ExecOp exec) = codes "box"
shape_of (CopyOp files) = codes "note"
shape_of (MakeDirsOp path) = codes "note"
shape_of MergeOp = codes "invtrapezium"

-- ---- stages

-- the stage that a first piece of a title names: in `[build` it is `build`; `[2/5]` and `[` name none
abbrev pub stage_of_piece : List ℕ → List ℕ
stage_of_piece piece =
    if starts_with nat_eq piece (codes "[") then (if list_any (λ c. c == 93) (drop 1 piece) then [] else drop 1 piece) else []

-- the stage that a title names, which it does if its file has several; else the empty name
abbrev pub stage_in : Option (List ℕ) → List ℕ
stage_in None = []
stage_in (Some title) = stage_of_piece (first_piece title)

-- whether an operation is a source
abbrev pub is_source : Op → Bool
is_source (SourceOp source) = true
is_source (ExecOp exec) = false
is_source (CopyOp files) = false
is_source (MakeDirsOp path) = false
is_source MergeOp = false

-- ---- edges

-- at the edge of a bind mount: where it is mounted
abbrev pub bind_attributes : Option Bind → List ℕ
bind_attributes None = []
bind_attributes (Some bind) = codes " [label=\"bind " ++ (shown (text_of bind.target) ++ codes "\" style=dotted]")

-- at the edge of the input of this number, counted from 0: the tree that an operation is done in has a plain one, what a copy takes its files from
-- a dashed one, a bind mount a dotted one, and a tree of a merge its number, counted from 1 and from the bottom
abbrev pub input_attributes : Op → ℕ → List ℕ
input_attributes (SourceOp source) number = []
input_attributes (ExecOp exec) number = if number == 0 then [] else bind_attributes (slice_get exec.binds (number - 1))
input_attributes (CopyOp files) number = if number == 0 then [] else codes " [style=dashed]"
input_attributes (MakeDirsOp path) number = []
input_attributes MergeOp number = codes " [label=\"" ++ (decimal (number + 1) ++ codes "\" style=bold]")
