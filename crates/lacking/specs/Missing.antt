-- Which source a COPY misses that fails because one isn't there, as far as that is known without the trees of stages (own).
use Rattle.std.specs.Prelude.{◌==◌, ℕ, Bool, true, false, Option, Some, None, Ok, Err, List, [], ◌∷◌, if◌then◌else◌}
use Rattle.std.specs.Str.{chars}
use Rattle.std.specs.Option.{option_or}
use Rattle.globs.specs.Grammar.{is_spelled_out}
use Rattle.trees.specs.TreeMap.{TreeMap, empty_tree}
use Rattle.trees.specs.Cause.{TreeOrCause}
use Rattle.trees.specs.declared.cause.Cause.{Cause}
use Rattle.trees.specs.declared.cause.Cause.TheVariants.{F1, F2, F3, F4, F5, Exit}
use Rattle.llb.specs.declared.op.CopyFiles.{CopyFiles}
use Rattle.llb.specs.declared.op.FileSource.{FileSource}
use Rattle.llb.specs.declared.op.FileSource.TheVariants.{Pattern, Data}
use Rattle.llb.specs.declared.op.Source.TheVariants.{Scratch, Context, Image}
use Rattle.plans.specs.Sources.{SourcesValue, source_tree}
use Rattle.plans.specs.Value.{copied_files}
use Rattle.rows.specs.Rows.{Rows}
use Rattle.rows.specs.declared.row.Action.{Action}
use Rattle.rows.specs.declared.row.Action.TheVariants.{Run, Copy, MakeDirs}
use Rattle.rows.specs.declared.row.Origin.{Origin}
use Rattle.rows.specs.declared.row.Origin.TheVariants.{Source as SourceOf, Stage as StageOf}
use Rattle.rows.specs.declared.row.Step.{Step}
use Rattle.rows.specs.declared.row.Stage.{Stage}
use Rattle.lacking.specs.declared.missing.Missed.{Missed}

-- a COPY of a source alone, into the root of a tree
abbrev pub alone : FileSource → CopyFiles
alone source = record { sources = source ∷ []; dest = []; options = record { into = true; owner = None; mode = None } }

-- a cause is that a source isn't there
abbrev pub is_for_source : Cause → Bool
is_for_source F1 = true
is_for_source F2 = false
is_for_source F3 = false
is_for_source F4 = false
is_for_source F5 = false
is_for_source (Exit status) = false

-- a COPY fails because a source isn't there
abbrev pub fails_for_source : TreeOrCause → Bool
fails_for_source (Ok tree) = false
fails_for_source (Err cause) = is_for_source cause

-- a tree lacks a source: a COPY of it alone out of this tree fails because it isn't there
unfoldable pub lacks : TreeMap → FileSource → Bool
lacks tree source = fails_for_source (copied_files (alone source) empty_tree tree)

-- a source, if it is a pattern and a tree lacks it
abbrev pub lacked : TreeMap → FileSource → Option (List ℕ)
lacked tree (Pattern text) = if lacks tree (Pattern text) then Some text else None
lacked tree (Data name content) = None

-- the first source that a tree lacks
abbrev pub first_lacked : TreeMap → List FileSource → Option (List ℕ)
first_lacked tree [] = None
first_lacked tree (source ∷ sources) = option_or (lacked tree source) (first_lacked tree sources)

-- the text of a source, if it is a pattern
abbrev pub pattern_of : FileSource → Option (List ℕ)
pattern_of (Pattern text) = Some text
pattern_of (Data name content) = None

-- the only source, if there is just one, and it is a pattern
abbrev pub only : List FileSource → Option (List ℕ)
only [] = None
only (source ∷ []) = pattern_of source
only (source ∷ (other ∷ sources)) = None

-- the first source that a tree lacks, if the tree is there
abbrev pub lacked_by : Option TreeMap → List FileSource → Option (List ℕ)
lacked_by None sources = None
lacked_by (Some tree) sources = first_lacked tree sources

-- Which of the sources of a COPY isn't in the tree that it names, of which it is known that one isn't there: of a tree that is there before the build
-- the first that it lacks. The tree of a stage isn't looked at, so there it is known of a COPY of one source alone.
abbrev pub missed_from : SourcesValue → Origin → List FileSource → Option (List ℕ)
missed_from trees (SourceOf source) sources = lacked_by (source_tree trees source) sources
missed_from trees (StageOf number) sources = only sources

-- a source is a path of the context, without signs of a pattern
abbrev pub is_context_path : Origin → List ℕ → Bool
is_context_path (SourceOf Context) text = is_spelled_out (chars text)
is_context_path (SourceOf Scratch) text = false
is_context_path (SourceOf (Image name)) text = false
is_context_path (StageOf number) text = false

-- a source, with whether it is a path of the context
abbrev pub with_place : Origin → Option (List ℕ) → Option Missed
with_place origin None = None
with_place origin (Some text) = Some (record { source = text; is_context_path = is_context_path origin text })

-- the source that an instruction misses, with whether it is a path of the context
abbrev pub missed_by : SourcesValue → Action → Option Missed
missed_by trees (Run exec from) = None
missed_by trees (Copy files None linked) = None
missed_by trees (Copy files (Some origin) linked) = with_place origin (missed_from trees origin files.sources)
missed_by trees (MakeDirs path) = None

-- the same of the instruction on a line of a stage, if it is there
abbrev pub missed_in : SourcesValue → ℕ → List Step → Option Missed
missed_in trees line [] = None
missed_in trees line (step ∷ steps) = if step.line == line then missed_by trees step.action else missed_in trees line steps

-- the same of a stage that isn't left out
abbrev pub missed_in_row : SourcesValue → ℕ → Option Stage → Option Missed
missed_in_row trees line None = None
missed_in_row trees line (Some stage) = missed_in trees line stage.steps

-- the same of the instruction on a line of a file
abbrev pub missed_at : SourcesValue → ℕ → Rows → Option Missed
missed_at trees line [] = None
missed_at trees line (row ∷ rows) = option_or (missed_in_row trees line row) (missed_at trees line rows)

-- the source that the instruction on a line of a file misses which fails with this cause, by the trees that are there before the build
abbrev pub missed_source : SourcesValue → Rows → ℕ → Cause → Option Missed
missed_source trees rows line cause = if is_for_source cause then missed_at trees line rows else None
