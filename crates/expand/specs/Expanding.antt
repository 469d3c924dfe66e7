-- What expanding a word gives, and what is reported of the texts of a line.
use Rattle.std.specs.Prelude.{◌≡◌, ℕ, Bool, false, List, [], ◌∷◌, ◌==◌, Option, Some, None, option_map, length, nat_lt, Result, Ok, Err, if◌then◌else◌}
use Rattle.std.specs.Option.{unwrap_or}
use Rattle.plain.specs.Limits.{most_text_bytes}
use Rattle.plain.specs.declared.fault.Fault.{Fault}
use Rattle.plain.specs.declared.fault.Fault.TheVariants.{Because, Memory}
use Rattle.expand.specs.Value.{Parts, value, refusal}
use Rattle.expand.specs.declared.fault.Unexpanded.{Unexpanded}
use Rattle.expand.specs.declared.fault.Unexpanded.TheVariants.{TooLong, Required}

-- why there is no value, of a word that is refused with a text or has this value: the text that it is refused with, else the
-- value, is longer than a limit; or it is refused (own)
abbrev pub fault_of : ℕ → Option (List ℕ) → List ℕ → Option Unexpanded
fault_of limit refused text = if nat_lt limit (length (unwrap_or refused text)) then Some TooLong else option_map (λ t. Required t) refused

-- why a word has no value under a scope, if it has none (own)
abbrev pub unexpanded : (List ℕ → Option (List ℕ)) → Parts → Option Unexpanded
unexpanded s word = fault_of most_text_bytes (refusal s word) (value s word)

-- a text is given if nothing is against it, else what is
abbrev pub Gives : Option Unexpanded → List ℕ → Result (List ℕ) (Fault Unexpanded) → Type 0
Gives fault text (Ok found) = (found ≡ text) × (fault ≡ None)
Gives fault text (Err (Because why)) = fault ≡ Some why
Gives fault text (Err Memory) = Unit {0}

-- the value of a word under a scope, if it has one
abbrev pub valued_by : Option Unexpanded → List ℕ → Option (List ℕ)
valued_by None text = Some text
valued_by (Some why) text = None

abbrev pub valued : (List ℕ → Option (List ℕ)) → Parts → Option (List ℕ)
valued s word = valued_by (unexpanded s word) (value s word)

-- a test of the value of a word, if it has one: of any other word nothing is tested (own)
abbrev pub is_valued : (List ℕ → Bool) → Option (List ℕ) → Bool
is_valued test None = false
is_valued test (Some text) = test text

abbrev pub is_empty : List ℕ → Bool
is_empty text = length text == 0

-- what is reported of a line, of what is against its texts so far and against the next: R18 before R21, and of several texts
-- that are refused with R21 the first (own)
abbrev pub worse : Option Unexpanded → Option Unexpanded → Option Unexpanded
worse None next = next
worse (Some TooLong) next = Some TooLong
worse (Some (Required text)) None = Some (Required text)
worse (Some (Required text)) (Some TooLong) = Some TooLong
worse (Some (Required text)) (Some (Required other)) = Some (Required text)

-- the same of a list
abbrev pub worst : List (Option Unexpanded) → Option Unexpanded
worst [] = None
worst (fault ∷ faults) = worse fault (worst faults)
