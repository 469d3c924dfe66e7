-- Laws of values and refusals: of plain text, and of a variable with a word, by whether the variable is set and has a text.
use Rattle.std.specs.Prelude.{◌≡◌, ◌≢◌, ℕ, List, [], ◌∷◌, ◌++◌, Option, Some, None, refl}
use Rattle.std.specs.Option.{unwrap_or}
use Rattle.std.proofs.Common.{ap}
use Rattle.expand.specs.Value.{Parts, no_part, variable, with_word, with_text, passes, choice_of, chosen, text_of, value, first_of, chosen_refusal, refusal}
use Rattle.expand.specs.declared.operator.Operator.{Operator}
use Rattle.expand.specs.declared.operator.Operator.TheVariants.{Default, Alternative, Required}
use Rattle.expand.specs.declared.operator.Choice.{Choice}
use Rattle.expand.specs.declared.operator.Choice.TheVariants.{Own, Word, Nothing}
use Rattle.expand.specs.declared.operator.Test.{Test}
use Rattle.expand.specs.declared.operator.Test.TheVariants.{IsSet, IsFilled}

pub value-text : (s : List ℕ → Option (List ℕ)) (text : List ℕ) → value s (with_text text no_part) ≡ text
value-text s [] = refl
value-text s (b ∷ bs) = ap (λ t. b ∷ t) (value-text s bs)

pub value-variable_set : (s : List ℕ → Option (List ℕ)) (v text : List ℕ) (rest : Parts) → s v ≡ Some text → value s (variable v rest) ≡ text ++ value s rest
value-variable_set s v text rest h = ap (λ (o : Option (List ℕ)). text_of o ++ value s rest) h

pub value-variable_unset : (s : List ℕ → Option (List ℕ)) (v : List ℕ) (rest : Parts) → s v ≡ None → value s (variable v rest) ≡ value s rest
value-variable_unset s v rest h = ap (λ (o : Option (List ℕ)). text_of o ++ value s rest) h

-- the value of a variable with a word, by what the variable has
value-by : (s : List ℕ → Option (List ℕ)) (o : Operator) (t : Test) (v : List ℕ) (word rest : Parts) (found : Option (List ℕ)) → s v ≡ found
    → value s (with_word o t v word rest) ≡ chosen (choice_of o (passes t found)) (text_of found) (value s word) ++ value s rest
value-by s o t v word rest found h = ap (λ (u : Option (List ℕ)). chosen (choice_of o (passes t u)) (text_of u) (value s word) ++ value s rest) h

pub value-default_filled : (s : List ℕ → Option (List ℕ)) (t : Test) (v text : List ℕ) (word rest : Parts) → s v ≡ Some text → text ≢ [] → value s (with_word Default t v word rest) ≡ text ++ value s rest
value-default_filled s t v [] word rest h i = absurd (i refl)
value-default_filled s IsSet v (b ∷ bs) word rest h i = value-by s Default IsSet v word rest (Some (b ∷ bs)) h
value-default_filled s IsFilled v (b ∷ bs) word rest h i = value-by s Default IsFilled v word rest (Some (b ∷ bs)) h

pub value-default_empty_set : (s : List ℕ → Option (List ℕ)) (v : List ℕ) (word rest : Parts) → s v ≡ Some [] → value s (with_word Default IsSet v word rest) ≡ value s rest
value-default_empty_set s v word rest h = value-by s Default IsSet v word rest (Some []) h

pub value-default_empty_filled : (s : List ℕ → Option (List ℕ)) (v : List ℕ) (word rest : Parts) → s v ≡ Some [] → value s (with_word Default IsFilled v word rest) ≡ value s word ++ value s rest
value-default_empty_filled s v word rest h = value-by s Default IsFilled v word rest (Some []) h

pub value-default_unset : (s : List ℕ → Option (List ℕ)) (t : Test) (v : List ℕ) (word rest : Parts) → s v ≡ None → value s (with_word Default t v word rest) ≡ value s word ++ value s rest
value-default_unset s IsSet v word rest h = value-by s Default IsSet v word rest None h
value-default_unset s IsFilled v word rest h = value-by s Default IsFilled v word rest None h

pub value-alternative_filled : (s : List ℕ → Option (List ℕ)) (t : Test) (v text : List ℕ) (word rest : Parts) → s v ≡ Some text → text ≢ [] → value s (with_word Alternative t v word rest) ≡ value s word ++ value s rest
value-alternative_filled s t v [] word rest h i = absurd (i refl)
value-alternative_filled s IsSet v (b ∷ bs) word rest h i = value-by s Alternative IsSet v word rest (Some (b ∷ bs)) h
value-alternative_filled s IsFilled v (b ∷ bs) word rest h i = value-by s Alternative IsFilled v word rest (Some (b ∷ bs)) h

pub value-alternative_empty_set : (s : List ℕ → Option (List ℕ)) (v : List ℕ) (word rest : Parts) → s v ≡ Some [] → value s (with_word Alternative IsSet v word rest) ≡ value s word ++ value s rest
value-alternative_empty_set s v word rest h = value-by s Alternative IsSet v word rest (Some []) h

pub value-alternative_empty_filled : (s : List ℕ → Option (List ℕ)) (v : List ℕ) (word rest : Parts) → s v ≡ Some [] → value s (with_word Alternative IsFilled v word rest) ≡ value s rest
value-alternative_empty_filled s v word rest h = value-by s Alternative IsFilled v word rest (Some []) h

pub value-alternative_unset : (s : List ℕ → Option (List ℕ)) (t : Test) (v : List ℕ) (word rest : Parts) → s v ≡ None → value s (with_word Alternative t v word rest) ≡ value s rest
value-alternative_unset s IsSet v word rest h = value-by s Alternative IsSet v word rest None h
value-alternative_unset s IsFilled v word rest h = value-by s Alternative IsFilled v word rest None h

pub refusal-text : (s : List ℕ → Option (List ℕ)) (text : List ℕ) → refusal s (with_text text no_part) ≡ None
refusal-text s [] = refl
refusal-text s (b ∷ bs) = refusal-text s bs

-- what a variable with a word is refused with, by what is chosen
refusal-chosen : (s : List ℕ → Option (List ℕ)) (o : Operator) (t : Test) (v : List ℕ) (word rest : Parts) (choice : Choice) → choice_of o (passes t (s v)) ≡ choice
    → refusal s (with_word o t v word rest) ≡ first_of (chosen_refusal choice (refusal s word) (value s word)) (refusal s rest)
refusal-chosen s o t v word rest choice h = ap (λ (c : Choice). first_of (chosen_refusal c (refusal s word) (value s word)) (refusal s rest)) h

pub refusal-own : (s : List ℕ → Option (List ℕ)) (o : Operator) (t : Test) (v : List ℕ) (word rest : Parts) → choice_of o (passes t (s v)) ≡ Own → refusal s (with_word o t v word rest) ≡ refusal s rest
refusal-own s o t v word rest h = refusal-chosen s o t v word rest Own h

pub refusal-nothing : (s : List ℕ → Option (List ℕ)) (o : Operator) (t : Test) (v : List ℕ) (word rest : Parts) → choice_of o (passes t (s v)) ≡ Nothing → refusal s (with_word o t v word rest) ≡ refusal s rest
refusal-nothing s o t v word rest h = refusal-chosen s o t v word rest Nothing h

pub refusal-word : (s : List ℕ → Option (List ℕ)) (o : Operator) (t : Test) (v : List ℕ) (word rest : Parts) → choice_of o (passes t (s v)) ≡ Word → refusal s (with_word o t v word rest) ≡ first_of (refusal s word) (refusal s rest)
refusal-word s o t v word rest h = refusal-chosen s o t v word rest Word h

-- what a required variable has and is refused with, by what the variable has

refusal-by : (s : List ℕ → Option (List ℕ)) (o : Operator) (t : Test) (v : List ℕ) (word rest : Parts) (found : Option (List ℕ)) → s v ≡ found
    → refusal s (with_word o t v word rest) ≡ first_of (chosen_refusal (choice_of o (passes t found)) (refusal s word) (value s word)) (refusal s rest)
refusal-by s o t v word rest found h = ap (λ (u : Option (List ℕ)). first_of (chosen_refusal (choice_of o (passes t u)) (refusal s word) (value s word)) (refusal s rest)) h

abbrev HasOwn : (List ℕ → Option (List ℕ)) → Test → List ℕ → List ℕ → Parts → Parts → Type 0
HasOwn s t v text word rest = (value s (with_word Required t v word rest) ≡ text ++ value s rest) × (refusal s (with_word Required t v word rest) ≡ refusal s rest)

pub required-filled : (s : List ℕ → Option (List ℕ)) (t : Test) (v text : List ℕ) (word rest : Parts) → s v ≡ Some text → text ≢ [] → HasOwn s t v text word rest
required-filled s t v [] word rest h i = absurd (i refl)
required-filled s IsSet v (b ∷ bs) word rest h i = (value-by s Required IsSet v word rest (Some (b ∷ bs)) h, refusal-by s Required IsSet v word rest (Some (b ∷ bs)) h)
required-filled s IsFilled v (b ∷ bs) word rest h i = (value-by s Required IsFilled v word rest (Some (b ∷ bs)) h, refusal-by s Required IsFilled v word rest (Some (b ∷ bs)) h)

pub required-empty_set : (s : List ℕ → Option (List ℕ)) (v : List ℕ) (word rest : Parts) → s v ≡ Some [] → (value s (with_word Required IsSet v word rest) ≡ value s rest) × (refusal s (with_word Required IsSet v word rest) ≡ refusal s rest)
required-empty_set s v word rest h = (value-by s Required IsSet v word rest (Some []) h, refusal-by s Required IsSet v word rest (Some []) h)

pub required-empty_filled : (s : List ℕ → Option (List ℕ)) (v : List ℕ) (word rest : Parts) → s v ≡ Some [] → refusal s (with_word Required IsFilled v word rest) ≡ Some (unwrap_or (refusal s word) (value s word))
required-empty_filled s v word rest h = refusal-by s Required IsFilled v word rest (Some []) h

pub required-unset : (s : List ℕ → Option (List ℕ)) (t : Test) (v : List ℕ) (word rest : Parts) → s v ≡ None → refusal s (with_word Required t v word rest) ≡ Some (unwrap_or (refusal s word) (value s word))
required-unset s IsSet v word rest h = refusal-by s Required IsSet v word rest None h
required-unset s IsFilled v word rest h = refusal-by s Required IsFilled v word rest None h
