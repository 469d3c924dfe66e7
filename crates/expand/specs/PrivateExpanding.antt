-- How a word is expanded token by token: what the private functions of src/expanding.rt say.
use Rattle.std.specs.Prelude.{◌≡◌, ◌<◌, ◌≤◌, ℕ, suc, zero, List, [], ◌∷◌, ◌++◌, Option, Some, length, Result, Ok, Err}
use Rattle.plain.specs.declared.fault.Fault.{Fault}
use Rattle.plain.specs.declared.fault.Fault.TheVariants.{Because, Memory}
use Rattle.expand.specs.Value.{choice_of, passes, text_of}
use Rattle.expand.specs.declared.fault.Unexpanded.{Unexpanded}
use Rattle.expand.specs.declared.fault.Unexpanded.TheVariants.{TooLong}
use Rattle.expand.specs.declared.operator.Choice.{Choice}
use Rattle.expand.specs.declared.operator.Choice.TheVariants.{Own, Word, Nothing, Refusal}
use Rattle.expand.specs.declared.token.Token.{Token}
use Rattle.expand.specs.declared.token.Token.TheVariants.{Plain, Variable, Open, Close}

-- what is added of a variable with a word: its own text before what follows the word, or the word with what follows it
abbrev pub run_chosen : Choice → List ℕ → List ℕ → List ℕ → List ℕ
run_chosen Own own word rest = own ++ rest
run_chosen Word own word rest = word
run_chosen Nothing own word rest = rest
run_chosen Refusal own word rest = rest

-- the value of what tokens begin with, up to the close of the word that they stand in: so many words that are open don't count,
-- and around these so many are open that do
abbrev pub run : (List ℕ → Option (List ℕ)) → ℕ → ℕ → List Token → List ℕ
run s n d [] = []
run s zero d (Plain text ∷ ts) = text ++ run s zero d ts
run s zero d (Variable v ∷ ts) = text_of (s v) ++ run s zero d ts
run s zero d (Open o t v ∷ ts) = run_chosen (choice_of o (passes t (s v))) (text_of (s v)) (run s zero (suc d) ts) (run s 1 d ts)
run s zero zero (Close ∷ ts) = []
run s zero (suc d) (Close ∷ ts) = run s zero d ts
run s (suc n) d (Plain text ∷ ts) = run s (suc n) d ts
run s (suc n) d (Variable v ∷ ts) = run s (suc n) d ts
run s (suc n) d (Open o t v ∷ ts) = run s (suc (suc n)) d ts
run s (suc n) d (Close ∷ ts) = run s n d ts

-- what is sought from a variable with a word on: after the word, in the word, or in the word as one that refuses
abbrev pub sought_chosen : Choice → Option (List Token) → Option (List Token) → Option (List Token) → Option (List Token)
sought_chosen Own rest word refusing = rest
sought_chosen Word rest word refusing = word
sought_chosen Nothing rest word refusing = rest
sought_chosen Refusal rest word refusing = refusing

-- the tokens after the `?` of the word that tokens are refused with, up to the close of the word that they stand in: so many words
-- that are open don't count, and around these so many are open that do; `found` are the tokens after the last such `?` so far
abbrev pub sought : (List ℕ → Option (List ℕ)) → ℕ → ℕ → Option (List Token) → List Token → Option (List Token)
sought s n d found [] = found
sought s zero d found (Plain text ∷ ts) = sought s zero d found ts
sought s zero d found (Variable v ∷ ts) = sought s zero d found ts
sought s zero d found (Open o t v ∷ ts) = sought_chosen (choice_of o (passes t (s v))) (sought s 1 d found ts) (sought s zero (suc d) found ts) (sought s zero zero (Some ts) ts)
sought s zero zero found (Close ∷ ts) = found
sought s zero (suc d) found (Close ∷ ts) = sought s zero d found ts
sought s (suc n) d found (Plain text ∷ ts) = sought s (suc n) d found ts
sought s (suc n) d found (Variable v ∷ ts) = sought s (suc n) d found ts
sought s (suc n) d found (Open o t v ∷ ts) = sought s (suc (suc n)) d found ts
sought s (suc n) d found (Close ∷ ts) = sought s n d found ts

-- a piece is added to a text within a limit, or the two together are longer
abbrev pub IsPushed : ℕ → List ℕ → List ℕ → List ℕ → Result (Unit {0}) (Fault Unexpanded) → Type 0
IsPushed limit old piece new (Ok u) = (new ≡ old ++ piece) × (length new ≤ limit)
IsPushed limit old piece new (Err (Because why)) = (why ≡ TooLong) × (limit < length (old ++ piece))
IsPushed limit old piece new (Err Memory) = Unit {0}

-- a text within a limit is given, or it is longer
abbrev pub IsWithin : ℕ → List ℕ → Result (List ℕ) (Fault Unexpanded) → Type 0
IsWithin limit text (Ok found) = (found ≡ text) × (length text ≤ limit)
IsWithin limit text (Err (Because why)) = (why ≡ TooLong) × (limit < length text)
IsWithin limit text (Err Memory) = Unit {0}
