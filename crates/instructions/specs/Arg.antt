-- ARG: words `name` or `name=default`, cut at the first `=` (Dockerfile reference).
use Rattle.std.specs.Prelude.{ℕ, ◌==◌, ◌||◌, Bool, false, not, List, Option, Some, None, option_map, length, map}
use Rattle.std.specs.List.{list_any}
use Rattle.ascii.specs.Names.{is_name}
use Rattle.plain.specs.declared.refusal.Code.{Code}
use Rattle.plain.specs.declared.refusal.Code.TheVariants.{R06, R09, R10}
use Rattle.lines.specs.declared.escape.Escape.{Escape}
use Rattle.words.specs.Cutting.{words, ends_open}
use Rattle.words.specs.Pairs.{pair}
use Rattle.expand.specs.Word.{word}
use Rattle.expand.specs.declared.kind.Kind.TheVariants.{Quoted}
use Rattle.options.specs.Lists.{all_some}
use Rattle.instructions.specs.Expanded.{has_no_word}
use Rattle.instructions.specs.declared.instruction.Argument.{Argument}
use Rattle.instructions.specs.declared.instruction.InstructionKind.{InstructionKind}
use Rattle.instructions.specs.declared.instruction.InstructionKind.TheVariants.{Arg}

-- the name of a word, and its default where it is cut
abbrev pub argument_by : List ℕ → Option (List ℕ × List ℕ) → List ℕ × Option (List ℕ)
argument_by word None = (word, None)
argument_by word (Some cut) = (cut.0, Some cut.1)

-- the name and the default of a word, as they are written
abbrev pub argument_cut : List ℕ → List ℕ × Option (List ℕ)
argument_cut word = argument_by word (pair word)

-- the names and defaults of a text behind ARG
abbrev pub argument_cuts : Escape → List ℕ → List (List ℕ × Option (List ℕ))
argument_cuts escape text = map argument_cut (words escape text)

-- the argument of a name and a default, where that is none or a word
abbrev pub argument_from : Escape → List ℕ → Option (List ℕ) → Option Argument
argument_from escape name None = Some (record { name = name; default = None })
argument_from escape name (Some text) = option_map (λ default. record { name = name; default = Some default }) (word Quoted escape text)

-- the same of what a word is cut into
abbrev pub argument_of : Escape → List ℕ × Option (List ℕ) → Option Argument
argument_of escape cut = argument_from escape cut.0 cut.1

-- the arguments of names and defaults, where each default is a word
abbrev pub arguments_of : Escape → List (List ℕ × Option (List ℕ)) → Option (List Argument)
arguments_of escape cuts = all_some (map (argument_of escape) cuts)

-- whether one of the names is none of a variable
abbrev pub has_bad_name : List (List ℕ × Option (List ℕ)) → Bool
has_bad_name cuts = list_any (λ cut. not (is_name cut.0)) cuts

-- what a text behind ARG is read as
abbrev pub arg_read : Escape → List ℕ → Option InstructionKind
arg_read escape text = option_map (λ arguments. Arg arguments) (arguments_of escape (argument_cuts escape text))

-- the codes that are due for ARG and what stands behind it; a default is tested though a value may be given for its name
abbrev pub arg_due : Escape → List ℕ → Code → Bool
arg_due escape text R06 = length (words escape text) == 0
arg_due escape text R09 = ends_open escape text || has_no_word (arguments_of escape) (Some (argument_cuts escape text))
arg_due escape text R10 = has_bad_name (argument_cuts escape text)
arg_due escape text code = false
