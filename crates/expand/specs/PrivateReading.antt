-- How marked characters are read from the front on: what the private functions of src/character.rt and src/reading.rt say.
use Rattle.std.specs.Prelude.{◌≡◌, ℕ, zero, suc, Bool, true, false, List, [], ◌∷◌, ◌++◌, ◌==◌, nat_lt, if◌then◌else◌, Option, Some, None, option_map}
use Rattle.ascii.specs.Names.{begins_name, is_digit}
use Rattle.expand.specs.PrivatePieces.{Piece, itself, bare, braced, opening, close, tokens}
use Rattle.expand.specs.Syntax.{dollar, open_brace, close_brace, colon, dash, plus, question, most_nested}
use Rattle.expand.specs.declared.character.Character.{Character}
use Rattle.expand.specs.declared.character.Character.TheVariants.{Active, Literal}
use Rattle.expand.specs.declared.character.Sign.{Sign}
use Rattle.expand.specs.declared.character.Sign.TheVariants.{Dollar, OpenBrace, CloseBrace, Colon, Dash, Plus, Question, Letter, Digit, Other}
use Rattle.expand.specs.declared.operator.Operator.{Operator}
use Rattle.expand.specs.declared.operator.Operator.TheVariants.{Default, Alternative, Required}
use Rattle.expand.specs.declared.operator.Test.{Test}
use Rattle.expand.specs.declared.operator.Test.TheVariants.{IsSet, IsFilled}
use Rattle.expand.specs.declared.state.Begun.{Begun}
use Rattle.expand.specs.declared.state.Begun.TheVariants.{Nothing, AfterDollar, InName, AfterBrace, InBracedName, AfterColon}
use Rattle.expand.specs.declared.state.Reading.{Reading}
use Rattle.expand.specs.declared.token.Token.{Token}

-- what an active character is to the syntax
unfoldable pub sign_at : ℕ → Sign
sign_at c = if c == dollar then Dollar
    else (if c == open_brace then OpenBrace
    else (if c == close_brace then CloseBrace
    else (if c == colon then Colon
    else (if c == dash then Dash
    else (if c == plus then Plus
    else (if c == question then Question
    else (if begins_name c then Letter
    else (if is_digit c then Digit else Other))))))))

-- what a character is to the syntax: one that isn't active is none of it
abbrev pub sign_of : Character → Sign
sign_of (Active c) = sign_at c
sign_of (Literal c) = Other

-- a character without its mark
abbrev pub code_point : Character → ℕ
code_point (Active c) = c
code_point (Literal c) = c

-- what one more character gives: whether there is a bad substitution, else the pieces that it ends, how many words are
-- open then, and what is begun
pub record Step : Type 0 where
  pub is_bad : Bool
  pub ended : List Piece
  pub depth : ℕ
  pub begun : Begun

-- the step that a bad substitution gives
abbrev pub bad : Step
bad = record { is_bad = true; ended = []; depth = 0; begun = Nothing }

-- the step that ends pieces and goes on with so many words open, and this begun
abbrev pub on : List Piece → ℕ → Begun → Step
on ps n b = record { is_bad = false; ended = ps; depth = n; begun = b }

-- what a step gives behind a piece that it ends first
abbrev pub behind : Piece → Step → Step
behind p s = record { is_bad = s.is_bad; ended = p ∷ s.ended; depth = s.depth; begun = s.begun }

-- a `}` closes the word that was opened last, and stands for itself where none is open
abbrev pub step_close : ℕ → Character → Step
step_close zero c = on (itself c ∷ []) zero Nothing
step_close (suc n) c = on (close ∷ []) n Nothing

-- where nothing is begun
abbrev pub step_at : ℕ → Sign → Character → Step
step_at n Dollar c = on [] n AfterDollar
step_at n CloseBrace c = step_close n c
step_at n _ c = on (itself c ∷ []) n Nothing

-- behind a `$`
abbrev pub step_after_dollar : ℕ → Sign → Character → Step
step_after_dollar n OpenBrace c = if nat_lt n most_nested then on [] n AfterBrace else bad
step_after_dollar n Letter c = on [] n (InName (code_point c ∷ []))
step_after_dollar n k c = behind (itself (Active dollar)) (step_at n k c)

-- behind `$v`, which goes on with a letter or a digit
abbrev pub step_in_name : List ℕ → ℕ → Sign → Character → Step
step_in_name v n Letter c = on [] n (InName (v ++ code_point c ∷ []))
step_in_name v n Digit c = on [] n (InName (v ++ code_point c ∷ []))
step_in_name v n k c = behind (bare v) (step_at n k c)

-- behind `${`, where a name has to begin
abbrev pub step_after_brace : ℕ → Sign → Character → Step
step_after_brace n Letter c = on [] n (InBracedName (code_point c ∷ []))
step_after_brace n _ c = bad

-- behind `${v` and an operator
abbrev pub step_open : Operator → Test → List ℕ → ℕ → Step
step_open o t v n = on (opening o t v ∷ []) (suc n) Nothing

-- behind `${v`, where the name goes on or ends
abbrev pub step_in_braced_name : List ℕ → ℕ → Sign → Character → Step
step_in_braced_name v n CloseBrace c = on (braced v ∷ []) n Nothing
step_in_braced_name v n Colon c = on [] n (AfterColon v)
step_in_braced_name v n Dash c = step_open Default IsSet v n
step_in_braced_name v n Plus c = step_open Alternative IsSet v n
step_in_braced_name v n Question c = step_open Required IsSet v n
step_in_braced_name v n Letter c = on [] n (InBracedName (v ++ code_point c ∷ []))
step_in_braced_name v n Digit c = on [] n (InBracedName (v ++ code_point c ∷ []))
step_in_braced_name v n _ c = bad

-- behind `${v:`
abbrev pub step_after_colon : List ℕ → ℕ → Sign → Character → Step
step_after_colon v n Dash c = step_open Default IsFilled v n
step_after_colon v n Plus c = step_open Alternative IsFilled v n
step_after_colon v n Question c = step_open Required IsFilled v n
step_after_colon v n _ c = bad

-- the step of one more character, where so many words are open and this is begun
abbrev pub step : ℕ → Begun → Sign → Character → Step
step n Nothing k c = step_at n k c
step n AfterDollar k c = step_after_dollar n k c
step n (InName v) k c = step_in_name v n k c
step n AfterBrace k c = step_after_brace n k c
step n (InBracedName v) k c = step_in_braced_name v n k c
step n (AfterColon v) k c = step_after_colon v n k c

-- at the end of the text, where each word has to be closed
abbrev pub ended_at_end : ℕ → Begun → Option (List Piece)
ended_at_end zero Nothing = Some []
ended_at_end zero AfterDollar = Some (itself (Active dollar) ∷ [])
ended_at_end zero (InName v) = Some (bare v ∷ [])
ended_at_end zero AfterBrace = None
ended_at_end zero (InBracedName v) = None
ended_at_end zero (AfterColon v) = None
ended_at_end (suc n) b = None

-- the pieces of the characters behind what is begun; none where there is a bad substitution
abbrev pub pieces_from : ℕ → Begun → List Character → Option (List Piece)
pieces_from n b [] = ended_at_end n b
pieces_from n b (c ∷ cs) = if (step n b (sign_of c) c).is_bad then None
    else option_map (λ ps. (step n b (sign_of c) c).ended ++ ps) (pieces_from (step n b (sign_of c) c).depth (step n b (sign_of c) c).begun cs)

-- the pieces of marked characters
unfoldable pub pieces : List Character → Option (List Piece)
pieces cs = pieces_from 0 Nothing cs

-- what a step makes of the tokens so far: none where there is a bad substitution
abbrev pub IsStep : List Token → List Token → Step → Option Reading → Type 0
IsStep out more s None = s.is_bad ≡ true
IsStep out more s (Some r) = (s.is_bad ≡ false) × (more ≡ out ++ tokens s.ended) × (r.depth ≡ s.depth) × (r.begun ≡ s.begun)

-- what the end of the text makes of them
abbrev pub finished : List Token → Option (List Piece) → Option (List Token)
finished out None = None
finished out (Some ps) = Some (out ++ tokens ps)
