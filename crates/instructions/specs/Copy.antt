-- COPY: flags, then sources and a destination, as words or as a list in JSON; a heredoc's mark may stand as a source
-- (Dockerfile reference, COPY). The sources, the destination and the bodies of bare marks are expanded.
use Rattle.std.specs.Prelude.{ℕ, ◌-◌, ◌==◌, ◌||◌, ◌&&◌, Bool, false, not, List, [], ◌∷◌, Option, Some, None, is_some, option_map, length, take, nat_lt, slice_index_or, if◌then◌else◌}
use Rattle.std.specs.List.{list_any}
use Rattle.plain.specs.declared.refusal.Code.{Code}
use Rattle.plain.specs.declared.refusal.Code.TheVariants.{R06, R07, R08, R09, R16}
use Rattle.lines.specs.declared.escape.Escape.{Escape}
use Rattle.lines.specs.declared.line.Heredoc.{Heredoc}
use Rattle.words.specs.Flag.{flags, behind_flags}
use Rattle.words.specs.Cutting.{ends_open}
use Rattle.words.specs.declared.flag.Flag.{Flag}
use Rattle.options.specs.Copy.{are_copy_flags, copy_flags, has_from}
use Rattle.options.specs.Lists.{all_some}
use Rattle.options.specs.declared.copy.CopyFlags.{CopyFlags}
use Rattle.expand.specs.Value.{Parts}
use Rattle.expand.specs.Word.{word}
use Rattle.expand.specs.declared.kind.Kind.TheVariants.{Unquoted}
use Rattle.instructions.specs.Expanded.{has_no_word, is_list, texts, kind_of}
use Rattle.lines.specs.Marks.{is_mark}
use Rattle.instructions.specs.declared.instruction.Body.{Body}
use Rattle.instructions.specs.declared.instruction.Body.TheVariants.{Expanded, Literal}
use Rattle.instructions.specs.declared.instruction.InstructionKind.{InstructionKind}
use Rattle.instructions.specs.declared.instruction.InstructionKind.TheVariants.{Copy}
use Rattle.instructions.specs.declared.instruction.Source.{Source}
use Rattle.instructions.specs.declared.instruction.Source.TheVariants.{Files, Document}

-- the arguments

-- all arguments but the last are sources, and the last is the destination
abbrev pub but_last : List (List ℕ) → List (List ℕ)
but_last texts = take (length texts - 1) texts

-- the destination: the last argument
abbrev pub last_of : List (List ℕ) → List ℕ
last_of texts = slice_index_or texts (length texts - 1) []

-- the source of a text that is no mark, where it is a word
abbrev pub pattern_of : Bool → Escape → List ℕ → Option Source
pattern_of listed escape text = option_map (λ pattern. Files pattern) (word (kind_of listed) escape text)

-- the body of a heredoc: that of a quoted mark is its own value, that of a bare one has to be a word
abbrev pub body_of : Escape → Heredoc → Option Body
body_of escape heredoc = if heredoc.mark.quoted then Some (Literal heredoc.body) else option_map (λ body. Expanded body) (word Unquoted escape heredoc.body)

-- the file that a heredoc is: its name is the mark's
abbrev pub document_of : Escape → Heredoc → Option Source
document_of escape heredoc = option_map (λ body. Document heredoc.mark.name body) (body_of escape heredoc)

-- the source of a text before which so many heredocs are left: where there are any, a mark is the first of them
abbrev pub source_of : Bool → Escape → List Heredoc → List ℕ → Option Source
source_of listed escape [] text = pattern_of listed escape text
source_of listed escape (heredoc ∷ heredocs) text = if is_mark text then document_of escape heredoc else pattern_of listed escape text

-- the heredocs that are left behind a text
abbrev pub left_behind : List Heredoc → List ℕ → List Heredoc
left_behind [] text = []
left_behind (heredoc ∷ heredocs) text = if is_mark text then heredocs else heredoc ∷ heredocs

-- the sources of texts: where a line has heredocs, the marks among the words are they, in their order
abbrev pub sources : Bool → Escape → List Heredoc → List (List ℕ) → List (Option Source)
sources listed escape heredocs [] = []
sources listed escape heredocs (text ∷ texts) = source_of listed escape heredocs text ∷ sources listed escape (left_behind heredocs text) texts

-- the sources and the destination, where all of them are there
abbrev pub arguments_from : Option (List Source) → Option Parts → Option (List Source × Parts)
arguments_from None destination = None
arguments_from (Some sources) None = None
arguments_from (Some sources) (Some destination) = Some (sources, destination)

-- the sources and the destination of texts, where each that is expanded is a word
abbrev pub arguments_of : Bool → Escape → List Heredoc → List (List ℕ) → Option (List Source × Parts)
arguments_of listed escape heredocs texts = arguments_from (all_some (sources listed escape heredocs (but_last texts))) (word (kind_of listed) escape (last_of texts))

-- the COPY of arguments and of what its flags say, where both are there
abbrev pub copy_from : Option (List Source × Parts) → Option CopyFlags → Option InstructionKind
copy_from None flags = None
copy_from (Some found) None = None
copy_from (Some found) (Some flags) = Some (Copy found.0 found.1 flags)

-- what a text behind COPY is read as, in a line with these heredocs
abbrev pub copy_read : Escape → List Heredoc → List ℕ → Option InstructionKind
copy_read escape heredocs text = copy_from (arguments_of (is_list (behind_flags text)) escape heredocs (texts escape (behind_flags text))) (copy_flags (flags text))

-- what is due

-- whether each heredoc is a source: there are as many marks among the sources, one for each. A mark is none where it is the
-- destination, or where it stands inside a longer word (own; BuildKit refuses one as the destination too)
abbrev pub are_all_sources : List Heredoc → List (List ℕ) → Bool
are_all_sources [] texts = not (list_any is_mark texts)
are_all_sources (heredoc ∷ heredocs) [] = false
are_all_sources (heredoc ∷ heredocs) (text ∷ texts) = if is_mark text then are_all_sources heredocs texts else are_all_sources (heredoc ∷ heredocs) texts

-- whether the heredocs aren't allowed: one of their marks is no source of its own, as none is in a list in JSON, or sources are
-- taken from elsewhere by `--from` (own)
abbrev pub are_refused : Bool → List Heredoc → List (List ℕ) → List Flag → Bool
are_refused listed heredocs texts flags = not (length heredocs == 0) && ((listed || not (are_all_sources heredocs (but_last texts))) || has_from flags)

-- the codes that are due for COPY with these heredocs and what stands behind it
abbrev pub copy_due : Escape → List Heredoc → List ℕ → Code → Bool
copy_due escape heredocs text R06 = nat_lt (length (texts escape (behind_flags text))) 2
copy_due escape heredocs text R07 = not (are_copy_flags (flags text))
copy_due escape heredocs text R08 = are_refused (is_list (behind_flags text)) heredocs (texts escape (behind_flags text)) (flags text)
copy_due escape heredocs text R09 = (not (is_list (behind_flags text)) && ends_open escape (behind_flags text)) || has_no_word (arguments_of (is_list (behind_flags text)) escape heredocs) (Some (texts escape (behind_flags text)))
copy_due escape heredocs text R16 = not (is_some (copy_flags (flags text)))
copy_due escape heredocs text code = false
