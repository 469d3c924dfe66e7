-- What a vertex of a graph has to be. A definition with a vertex that isn't so is malformed (own); the rules for mounts are
-- those of the Dockerfile reference, RUN --mount.
use Rattle.std.specs.Prelude.{◌==◌, ◌+◌, ℕ, Bool, true, false, ◌&&◌, List, [], ◌++◌, map, length, not, nat_eq, nat_le, codes, if◌then◌else◌}
use Rattle.std.specs.List.{list_all, list_any}
use Rattle.std.specs.Cmp.Lexicographic.{pointwise}
use Rattle.runs.specs.Run.{mounts_fit, ids_differ, ids_of}
use Rattle.plain.specs.Variable.{names_of, HaveNames}
use Rattle.plain.specs.VariableName.{is_variable_name}
use Rattle.plain.specs.declared.variable.Variable.{Variable}
use Rattle.runs.specs.declared.run.CacheUse.{CacheUse}
use Rattle.globs.specs.Glob.{is_malformed}
use Rattle.llb.specs.declared.op.Bind.{Bind}
use Rattle.llb.specs.declared.op.Exec.{Exec}
use Rattle.llb.specs.declared.op.Source.{Source}
use Rattle.llb.specs.declared.op.Source.TheVariants.{Scratch, Context, Image}
use Rattle.llb.specs.declared.op.FileSource.{FileSource}
use Rattle.llb.specs.declared.op.FileSource.TheVariants.{Pattern, Data}
use Rattle.llb.specs.declared.op.CopyFiles.{CopyFiles}
use Rattle.llb.specs.declared.op.Op.{Op}
use Rattle.llb.specs.declared.op.Op.TheVariants.{Source as SourceOp, Exec as ExecOp, Copy as CopyOp, MakeDirs as MakeDirsOp, Merge as MergeOp}
use Rattle.llb.specs.declared.vertex.Vertex.{Vertex}

-- the name scratch, which stands for the empty tree and is no image's
abbrev pub scratch_name : List ℕ
scratch_name = codes "scratch"

-- an image's name is any text but the empty one and scratch
abbrev pub is_well_formed_source : Source → Bool
is_well_formed_source Scratch = true
is_well_formed_source Context = true
is_well_formed_source (Image name) = not (length name == 0) && not (pointwise nat_eq name scratch_name)

-- what all variables are called are names, and no two have the same
abbrev pub is_environment : List Variable → Bool
is_environment env = list_all is_variable_name (names_of env) && ids_differ (names_of env)

-- where the mounts of a command are: those of the binds, then those of the caches
abbrev pub targets_of : Exec → List (List (List ℕ))
targets_of exec = map (λ (bind : Bind). bind.target) exec.binds ++ map (λ (cache : CacheUse). cache.target) exec.caches

-- a command has a word, a proper environment, mounts that can be mounted together, and no cache twice
abbrev pub is_well_formed_exec : Exec → Bool
is_well_formed_exec exec =
    not (length exec.words == 0) && (is_environment exec.env && (mounts_fit (targets_of exec) && ids_differ (ids_of exec.caches)))

-- a source of a COPY that is looked for in a tree
abbrev pub is_pattern : FileSource → Bool
is_pattern (Pattern text) = true
is_pattern (Data name content) = false

-- how many inputs a copy has: the tree that it copies into, and where a source is a pattern the tree that it copies from
abbrev pub inputs_of_copy : CopyFiles → ℕ
inputs_of_copy files = if list_any is_pattern files.sources then 2 else 1

-- a source's pattern isn't malformed; that a file's name is a component is said by its type
abbrev pub is_well_formed_file_source : FileSource → Bool
is_well_formed_file_source (Pattern text) = not (is_malformed text)
is_well_formed_file_source (Data name content) = true

-- a copy has a source, and no malformed pattern
abbrev pub is_well_formed_copy : CopyFiles → Bool
is_well_formed_copy files = not (length files.sources == 0) && list_all is_well_formed_file_source files.sources

-- whether an operation is well formed on that many inputs: none for a source; for a command the tree that it runs in, and one
-- for each bind; for a merge two at least
abbrev pub is_well_formed_on : Op → ℕ → Bool
is_well_formed_on (SourceOp source) inputs = inputs == 0 && is_well_formed_source source
is_well_formed_on (ExecOp exec) inputs = inputs == length exec.binds + 1 && is_well_formed_exec exec
is_well_formed_on (CopyOp files) inputs = inputs == inputs_of_copy files && is_well_formed_copy files
is_well_formed_on (MakeDirsOp path) inputs = inputs == 1
is_well_formed_on MergeOp inputs = nat_le 2 inputs

-- whether a vertex is well formed
abbrev pub is_well_formed : Vertex → Bool
is_well_formed vertex = is_well_formed_on vertex.op (length vertex.inputs)

-- the environment that an operation runs in: a command's; what isn't a command has none
abbrev pub environment_of : Op → List Variable
environment_of (SourceOp source) = []
environment_of (ExecOp exec) = exec.env
environment_of (CopyOp files) = []
environment_of (MakeDirsOp path) = []
environment_of MergeOp = []

-- all that a vertex's environment has is called by names, as its type keeps
abbrev pub HasNames : Vertex → Type 0
HasNames vertex = HaveNames (environment_of vertex.op)
