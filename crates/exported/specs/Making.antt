-- What a vertex is in a definition (own): an operation, on the trees of the vertices that it names, or the tree of another vertex. The empty
-- tree is no operation's, the root needn't be made, and a merge of one tree is that tree.
use Rattle.std.specs.Prelude.{ℕ, Option, Some, None, List, [], ◌∷◌, map, slice_index_or}
use Rattle.llb.specs.declared.op.Source.{Source}
use Rattle.llb.specs.declared.op.Source.TheVariants.{Scratch, Context, Image}
use Rattle.llb.specs.declared.op.Op.{Op}
use Rattle.llb.specs.declared.op.Op.TheVariants.{Source as SourceOp, Exec as ExecOp, Copy as CopyOp, MakeDirs as MakeDirsOp, Merge as MergeOp}
use Rattle.llb.specs.declared.vertex.Vertex.{Vertex}
use Rattle.llbmessages.specs.declared.op.OpKind.TheVariants.{Exec as ExecKind, Source as SourceKind, File as FileKind, Merge as MergeKind}
use Rattle.exported.specs.declared.making.Options.{Options}
use Rattle.exported.specs.declared.making.Merging.{Merging}
use Rattle.exported.specs.declared.making.Merging.TheVariants.{Native, Chain}
use Rattle.exported.specs.declared.making.Made.{Made}
use Rattle.exported.specs.declared.making.Made.TheVariants.{Same, By}
use Rattle.exported.specs.Names.{pinned_name}
use Rattle.exported.specs.Places.{inputs_of}
use Rattle.exported.specs.Operations.{op_on}
use Rattle.exported.specs.Sources.{image_source, context_source}
use Rattle.exported.specs.Files.{make_dir_actions, copied}
use Rattle.exported.specs.Commands.{exec_of}
use Rattle.exported.specs.Merges.{trees_at, merge_of}
use Rattle.exported.specs.Chains.{chain_of}
use Rattle.llbmessages.specs.declared.op.Op.{Op as Operation}
use Rattle.llbmessages.specs.declared.op.Platform.{Platform}

-- the places of some vertices, of which those before have these
abbrev pub places_at : List (Option (List ℕ)) → List ℕ → List (Option (List ℕ))
places_at known ids = map (λ id. slice_index_or known id None) ids

-- a source; images are of the platform and have names that may be pinned, and the files of a build are of no platform
abbrev pub source_made : Options → Source → Made
source_made options Scratch = Same None
source_made options Context = By (op_on None [] (SourceKind (context_source options.unique options.excludes options.follows)))
source_made options (Image name) = By (op_on (Some options.platform) [] (SourceKind (image_source (pinned_name options.digests name))))

-- the operation that lays trees over each other: BuildKit's own merge, for which nothing is asked of the platform, or copies
abbrev pub laid : Merging → Platform → List (List ℕ) → Operation
laid Native platform digests = op_on None digests (MergeKind (merge_of digests))
laid Chain platform digests = op_on (Some platform) digests (FileKind (record { actions = chain_of digests }))

-- trees that are laid over each other
abbrev pub merged : Options → List (List ℕ) → Made
merged options [] = Same None
merged options (digest ∷ []) = Same (Some digest)
merged options (first ∷ second ∷ digests) = By (laid options.merging options.platform (first ∷ second ∷ digests))

-- an operation on the trees of these places
abbrev pub made_on : Options → List (Option (List ℕ)) → Op → Made
made_on options places (SourceOp source) = source_made options source
made_on options places (ExecOp exec) = By (op_on (Some options.platform) (inputs_of places) (ExecKind (exec_of options.network places exec)))
made_on options places (CopyOp files) = By (op_on (Some options.platform) (inputs_of places) (FileKind (record { actions = copied files places })))
made_on options places (MakeDirsOp []) = Same (slice_index_or places 0 None)
made_on options places (MakeDirsOp (name ∷ names)) =
    By (op_on (Some options.platform) (inputs_of places) (FileKind (record { actions = make_dir_actions places (name ∷ names) })))
made_on options places MergeOp = merged options (trees_at places)

-- a vertex, of which those before have these places
unfoldable pub vertex_made : Options → List (Option (List ℕ)) → Vertex → Made
vertex_made options known vertex = made_on options (places_at known vertex.inputs) vertex.op
