-- ENV: where the first piece has an `=`, words `name=value`, cut at the first `=`; else the first piece is the name and the
-- rest is one value with its blanks (Dockerfile reference).
use Rattle.std.specs.Prelude.{ℕ, ◌==◌, ◌||◌, ◌&&◌, Bool, false, not, List, [], ◌∷◌, Option, Some, None, is_some, option_map, option_and_then, length, map, if◌then◌else◌}
use Rattle.std.specs.List.{list_any}
use Rattle.ascii.specs.Names.{is_name}
use Rattle.plain.specs.declared.refusal.Code.{Code}
use Rattle.plain.specs.declared.refusal.Code.TheVariants.{R06, R09, R10}
use Rattle.lines.specs.declared.escape.Escape.{Escape}
use Rattle.words.specs.Cutting.{words, ends_open}
use Rattle.words.specs.Pairs.{pair}
use Rattle.ascii.specs.Pieces.{first_piece, behind_piece}
use Rattle.expand.specs.Word.{word}
use Rattle.expand.specs.declared.kind.Kind.TheVariants.{Quoted}
use Rattle.options.specs.Lists.{all_some}
use Rattle.instructions.specs.Expanded.{has_no_word}
use Rattle.instructions.specs.declared.instruction.Assignment.{Assignment}
use Rattle.instructions.specs.declared.instruction.InstructionKind.{InstructionKind}
use Rattle.instructions.specs.declared.instruction.InstructionKind.TheVariants.{Env}

-- whether the first piece of a text has an `=`
abbrev pub has_pairs : List ℕ → Bool
has_pairs text = is_some (pair (first_piece text))

-- words, of which there is one at least, each cut in two
abbrev pub pairs_among : (List ℕ → Option (List ℕ × List ℕ)) → List (List ℕ) → Option (List (List ℕ × List ℕ))
pairs_among cut words = if length words == 0 then None else all_some (map cut words)

-- a name and a value, where there is a value
abbrev pub pair_alone : List ℕ → List ℕ → Option (List (List ℕ × List ℕ))
pair_alone name value = if length value == 0 then None else Some ((name, value) ∷ [])

-- the names and values of a text behind ENV, as they are written
abbrev pub pairs_in : Escape → List ℕ → Option (List (List ℕ × List ℕ))
pairs_in escape text = if has_pairs text then pairs_among pair (words escape text) else pair_alone (first_piece text) (behind_piece text)

-- the assignment of a name and a value, where that is a word
abbrev pub assignment_of : Escape → List ℕ × List ℕ → Option Assignment
assignment_of escape pair = option_map (λ value. record { name = pair.0; value = value }) (word Quoted escape pair.1)

-- the assignments of names and values, where each value is a word
abbrev pub assignments_of : Escape → List (List ℕ × List ℕ) → Option (List Assignment)
assignments_of escape pairs = all_some (map (assignment_of escape) pairs)

-- whether one of the names is none of a variable
abbrev pub has_bad_name : Option (List (List ℕ × List ℕ)) → Bool
has_bad_name None = false
has_bad_name (Some pairs) = list_any (λ pair. not (is_name pair.0)) pairs

-- what a text behind ENV is read as
abbrev pub env_read : Escape → List ℕ → Option InstructionKind
env_read escape text = option_map (λ assignments. Env assignments) (option_and_then (assignments_of escape) (pairs_in escape text))

-- the codes that are due for ENV and what stands behind it; one value with its blanks isn't split, but has to be a word, and an
-- open quote in the name before it makes a bad name of it
abbrev pub env_due : Escape → List ℕ → Code → Bool
env_due escape text R06 = not (is_some (pairs_in escape text))
env_due escape text R09 = (has_pairs text && ends_open escape text) || has_no_word (assignments_of escape) (pairs_in escape text)
env_due escape text R10 = has_bad_name (pairs_in escape text)
env_due escape text code = false
