-- What a COPY does, where it stands in a stage, and which codes are due for it there (Dockerfile reference, COPY; BuildKit's LLB, the
-- file operation with the action copy).
use Rattle.std.specs.Prelude.{ℕ, ◌-◌, ◌==◌, ◌||◌, ◌&&◌, Bool, false, not, List, map, Option, Some, None, length, nat_lt, bytes_eq, codes, slice_index_or, if◌then◌else◌}
use Rattle.std.specs.List.{list_any}
use Rattle.plain.specs.Limits.{most_text_bytes}
use Rattle.plain.specs.declared.refusal.Code.{Code}
use Rattle.plain.specs.declared.refusal.Code.TheVariants.{R06, R14, R15, R18}
use Rattle.paths.specs.Name.{is_component}
use Rattle.paths.specs.Reading.{pieces, read_from}
use Rattle.globs.specs.Glob.{is_malformed}
use Rattle.llb.specs.declared.op.CopyFiles.{CopyFiles}
use Rattle.llb.specs.declared.op.FileSource.{FileSource}
use Rattle.llb.specs.declared.op.FileSource.TheVariants.{Pattern, Data}
use Rattle.llb.specs.WellFormed.{is_pattern}
use Rattle.rows.specs.declared.row.Action.{Action}
use Rattle.rows.specs.declared.row.Action.TheVariants.{Copy}
use Rattle.rows.specs.declared.row.Origin.{Origin}
use Rattle.options.specs.declared.copy.CopyFlags.{CopyFlags}
use Rattle.expand.specs.Value.{Parts, value}
use Rattle.expand.specs.Expanding.{unexpanded, valued, is_valued, is_empty, worse, worst}
use Rattle.expand.specs.declared.fault.Unexpanded.{Unexpanded}
use Rattle.expand.specs.declared.fault.Unexpanded.TheVariants.{TooLong}
use Rattle.instructions.specs.Copy.{last_of}
use Rattle.instructions.specs.Reason.{is_long}
use Rattle.instructions.specs.declared.instruction.Body.{Body}
use Rattle.instructions.specs.declared.instruction.Body.TheVariants.{Expanded, Literal}
use Rattle.instructions.specs.declared.instruction.Source.{Source}
use Rattle.instructions.specs.declared.instruction.Source.TheVariants.{Files, Document}
use Rattle.scopes.specs.Evaluate.{Values}
use Rattle.scopes.specs.Scope.{value_in}
use Rattle.scopes.specs.declared.declaration.Declaration.{Declaration}
use Rattle.actions.specs.Texts.{is_within}

-- the sources

-- the text of a body: that of a quoted mark is its own, any other is expanded
abbrev pub body_text : Values → Body → List ℕ
body_text before (Expanded word) = value before word
body_text before (Literal text) = text

-- the source of an operation: a pattern's text with its variables replaced, as it stands, or a file of the mark's name with the body
abbrev pub file_source : Values → Source → FileSource
file_source before (Files word) = Pattern (value before word)
file_source before (Document name body) = Data name (body_text before body)

-- the sources, in their order
abbrev pub file_sources : Values → List Source → List FileSource
file_sources before sources = map (file_source before) sources

-- the destination

-- the code of `/`
abbrev pub slash : ℕ
slash = 47

-- a text ends in `/`
abbrev pub ends_in_slash : List ℕ → Bool
ends_in_slash text = slice_index_or text (length text - 1) 0 == slash

-- a component that names no entry but a directory: `.` or `..`
abbrev pub is_dot : List ℕ → Bool
is_dot component = bytes_eq component (codes ".") || bytes_eq component (codes "..")

-- whether files go into the destination because its text says so: it ends in `/`, or its last component is `.` or `..` (the latter: own)
abbrev pub goes_into : List ℕ → Bool
goes_into text = ends_in_slash text || is_dot (last_of (pieces text))

-- the operation

-- the tree that patterns are looked for in, where there is one to look for
abbrev pub origin_for : List FileSource → Origin → Option Origin
origin_for files origin = if list_any is_pattern files then Some origin else None

-- the copy of sources to the text of a destination in a working directory
abbrev pub copied : List (List ℕ) → List FileSource → List ℕ → CopyFlags → CopyFiles
copied dir files text flags = record {
  sources = files;
  dest = read_from text dir;
  options = record { into = goes_into text; owner = flags.owner; mode = flags.mode };
}

-- the COPY of sources, with the tree where its patterns are looked for, and whether it stands on its own (`--link`)
abbrev pub copy_by : CopyFiles → CopyFlags → Origin → Action
copy_by copied flags origin = Copy copied (origin_for copied.sources origin) flags.is_linked

-- what a COPY does, its surroundings being what ENV and ARG declared before it and the working directory; its patterns are looked for in
-- the tree of the origin
abbrev pub copy_action : List Declaration → List (List ℕ) → List Source → Parts → CopyFlags → Origin → Action
copy_action scope dir sources destination flags origin =
    copy_by (copied dir (file_sources (value_in scope) sources) (value (value_in scope) destination) flags) flags origin

-- what is against the texts

-- what is against a pattern, if the source is one
abbrev pub pattern_fault : Values → Source → Option Unexpanded
pattern_fault before (Files word) = unexpanded before word
pattern_fault before (Document name body) = None

-- what is against the body of a quoted mark: it isn't expanded, and has the limit of an expanded text (own)
abbrev pub literal_fault : List ℕ → Option Unexpanded
literal_fault text = if nat_lt most_text_bytes (length text) then Some TooLong else None

-- what is against a body
abbrev pub body_fault : Values → Body → Option Unexpanded
body_fault before (Expanded word) = unexpanded before word
body_fault before (Literal text) = literal_fault text

-- what is against the body of a heredoc, if the source is one
abbrev pub document_fault : Values → Source → Option Unexpanded
document_fault before (Files word) = None
document_fault before (Document name body) = body_fault before body

-- what is against the texts of a COPY, in reading order: the patterns and the destination, and then the bodies, which stand below the
-- line (own)
abbrev pub copy_fault : List Declaration → List Source → Parts → Option Unexpanded
copy_fault scope sources destination =
    worse (worst (map (pattern_fault (value_in scope)) sources))
    (worse (unexpanded (value_in scope) destination) (worst (map (document_fault (value_in scope)) sources)))

-- what is due

-- a test of a pattern's text, if the source is a pattern
abbrev pub is_pattern_and : (List ℕ → Bool) → Values → Source → Bool
is_pattern_and test before (Files word) = is_valued test (valued before word)
is_pattern_and test before (Document name body) = false

-- a text that doesn't end in `/`
abbrev pub lacks_slash : List ℕ → Bool
lacks_slash text = not (ends_in_slash text)

-- the path that a text leads to from a working directory is past the limits of a path (own)
abbrev pub leads_far : List (List ℕ) → List ℕ → Bool
leads_far dir text = not (is_within (read_from text dir))

-- a mark's name that is no component of a path: it is too long, since it has letters, digits and `_` alone (own)
abbrev pub has_far_name : Source → Bool
has_far_name (Files word) = false
has_far_name (Document name body) = not (is_component name)

-- the codes that are due for a COPY. R06: a pattern or the destination is empty. R14: there are several sources, patterns and heredocs
-- counted, and the destination's text doesn't end in `/`. R15: a pattern is malformed. R18: a text is too long, a mark's name is no
-- component, or the destination leads past the limits of a path (Dockerfile reference, COPY; the limits: own)
abbrev pub copy_due : List Declaration → List (List ℕ) → List Source → Parts → Code → Bool
copy_due scope dir sources destination R06 = list_any (is_pattern_and is_empty (value_in scope)) sources || is_valued is_empty (valued (value_in scope) destination)
copy_due scope dir sources destination R14 = nat_lt 1 (length sources) && is_valued lacks_slash (valued (value_in scope) destination)
copy_due scope dir sources destination R15 = list_any (is_pattern_and is_malformed (value_in scope)) sources
copy_due scope dir sources destination R18 =
    is_long (copy_fault scope sources destination) || (list_any has_far_name sources || is_valued (leads_far dir) (valued (value_in scope) destination))
copy_due scope dir sources destination code = false
