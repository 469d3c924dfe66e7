-- Texts, paths and sources of a COPY, as far as they are given, and what is against the others.
use Rattle.std.specs.Prelude.{◌≡◌, ◌++◌, ℕ, ◌||◌, ◌&&◌, Bool, false, List, [], Option, Some, None, nat_lt, option_map, if◌then◌else◌}
use Rattle.std.specs.List.{list_any, cons_option}
use Rattle.plain.specs.declared.refusal.Code.{Code}
use Rattle.plain.specs.declared.refusal.Code.TheVariants.{R06, R14, R15}
use Rattle.paths.specs.Name.{is_component}
use Rattle.paths.specs.Reading.{read_from}
use Rattle.globs.specs.Glob.{is_malformed}
use Rattle.llb.specs.declared.op.FileSource.{FileSource}
use Rattle.llb.specs.declared.op.FileSource.TheVariants.{Pattern, Data}
use Rattle.expand.specs.Expanding.{valued, valued_by, is_valued, is_empty, worse}
use Rattle.expand.specs.declared.fault.Unexpanded.{Unexpanded}
use Rattle.expand.specs.declared.fault.Unexpanded.TheVariants.{TooLong}
use Rattle.instructions.specs.declared.instruction.Body.{Body}
use Rattle.instructions.specs.declared.instruction.Source.{Source}
use Rattle.instructions.specs.declared.instruction.Source.TheVariants.{Files, Document}
use Rattle.scopes.specs.Evaluate.{Values}
use Rattle.actions.specs.Texts.{is_within}
use Rattle.actions.specs.Copy.{goes_into, body_text, body_fault, pattern_fault, lacks_slash, leads_far}
use Rattle.actions.specs.declared.sources.NearSources.{NearSources}

-- a path, where it is within the limits
abbrev pub within : List (List ℕ) → Option (List (List ℕ))
within path = if is_within path then Some path else None

-- the text of a body, if nothing is against it
abbrev pub body_valued : Values → Body → Option (List ℕ)
body_valued before body = valued_by (body_fault before body) (body_text before body)

-- a mark's name, if it is a component of a path
abbrev pub named : List ℕ → Option (List ℕ)
named name = if is_component name then Some name else None

-- what is against a name that may be there
abbrev pub name_fault : Option (List ℕ) → Option Unexpanded
name_fault None = Some TooLong
name_fault (Some name) = None

-- what is against a heredoc: its name, and its body
abbrev pub heredoc_fault : Values → Source → Option Unexpanded
heredoc_fault before (Files word) = None
heredoc_fault before (Document name body) = worse (name_fault (named name)) (body_fault before body)

-- the file of a name and a text, if both are there
abbrev pub file_of : Option (List ℕ) → Option (List ℕ) → Option FileSource
file_of None text = None
file_of (Some name) None = None
file_of (Some name) (Some text) = Some (Data name text)

-- the source of an operation, if it has its text, and a heredoc its name
abbrev pub near : Values → Source → Option FileSource
near before (Files word) = option_map (λ text. Pattern text) (valued before word)
near before (Document name body) = file_of (named name) (body_valued before body)

-- sources with one more, which is given if it is near
pub record IsNearer (before : Values) (old : NearSources) (source : Source) (new : NearSources) : Type 0 where
  pub files : new.files ≡ old.files ++ cons_option (near before source) []
  pub patterns : new.patterns ≡ worse old.patterns (pattern_fault before source)
  pub documents : new.documents ≡ worse old.documents (heredoc_fault before source)

-- a test of the text of a pattern
abbrev pub is_pattern_that : (List ℕ → Bool) → FileSource → Bool
is_pattern_that test (Pattern text) = test text
is_pattern_that test (Data name body) = false

-- the least code that one of these tests gives
abbrev pub first_code : Bool → Bool → Bool → Option Code
first_code is_empty lacks_folder is_bad = if is_empty then Some R06 else if lacks_folder then Some R14 else if is_bad then Some R15 else None

-- the least code that is due for these sources, so many in all, and a destination of this text, apart from limits
abbrev pub text_code : List FileSource → ℕ → Option (List ℕ) → Option Code
text_code files sources text =
    first_code (list_any (is_pattern_that is_empty) files || is_valued is_empty text) (nat_lt 1 sources && is_valued lacks_slash text) (list_any (is_pattern_that is_malformed) files)

-- where the text of a destination leads to in a working directory, and whether files go into it, if the text is there and the path is
-- within the limits
abbrev pub destination_of : List (List ℕ) → Option (List ℕ) → Option (List (List ℕ) × Bool)
destination_of dir None = None
destination_of dir (Some text) = option_map (λ path. (path, goes_into text)) (within (read_from text dir))

-- what is against the path of a destination whose text is there
abbrev pub far_fault : List (List ℕ) → Option (List ℕ) → Option Unexpanded
far_fault dir text = if is_valued (leads_far dir) text then Some TooLong else None
