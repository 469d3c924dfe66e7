-- How scripts are cut, and found among words, whatever else stands there.
use Rattle.std.specs.Prelude.{◌≡◌, ℕ, Bool, true, false, cond, List, [], ◌∷◌, ◌++◌, Some, None, map, filter, codes}
use Rattle.std.specs.List.{slice_split, onto_first}
use Rattle.std.proofs.Common.{refl, sym, ap, ◌∙◌}
use Rattle.std.proofs.lemmas.List.{map-append}
use Rattle.std.proofs.lemmas.List.Elements.{filter-append}
use Rattle.executor.specs.Script.{is_line_feed, has_word, is_text, commands, script_of}
use Rattle.ascii.specs.Pieces.{pieces}

-- lists that begin with one, with others behind them
record HasFirst (parts : List (List ℕ)) : Type 0 where
  first : List ℕ
  rest : List (List ℕ)
  is : parts ≡ first ∷ rest

HasFirst-onto : (x : ℕ) (parts : List (List ℕ)) → HasFirst parts → HasFirst (onto_first x parts)
HasFirst-onto x parts has = record { first = x ∷ has.first; rest = has.rest; is = ap (onto_first x) has.is }

HasFirst-choice : (b : Bool) (x : ℕ) (parts : List (List ℕ)) → HasFirst parts → HasFirst (cond b ([] ∷ parts) (onto_first x parts))
HasFirst-choice true x parts has = record { first = []; rest = parts; is = refl }
HasFirst-choice false x parts has = HasFirst-onto x parts has

-- a list that is cut has a first part
HasFirst-split : (p : ℕ → Bool) (xs : List ℕ) → HasFirst (slice_split p xs)
HasFirst-split p [] = record { first = []; rest = []; is = refl }
HasFirst-split p (x ∷ xs) = HasFirst-choice (p x) x (slice_split p xs) (HasFirst-split p xs)

onto_first-append : (x : ℕ) (parts more : List (List ℕ)) → HasFirst parts → onto_first x (parts ++ more) ≡ onto_first x parts ++ more
onto_first-append x parts more has =
    ap (λ ps. onto_first x (ps ++ more)) has.is ∙ sym (ap (λ ps. onto_first x ps ++ more) has.is)

choice-append : (b : Bool) (x : ℕ) (whole parts more : List (List ℕ)) → HasFirst parts → whole ≡ parts ++ more → cond b ([] ∷ whole) (onto_first x whole) ≡ cond b ([] ∷ parts) (onto_first x parts) ++ more
choice-append true x whole parts more has e = ap (λ ps. [] ∷ ps) e
choice-append false x whole parts more has e = ap (onto_first x) e ∙ onto_first-append x parts more has

-- where a list is cut, its two sides are cut apart
slice_split-append : (p : ℕ → Bool) (y : ℕ) → p y ≡ true → (xs ys : List ℕ) → slice_split p (xs ++ y ∷ ys) ≡ slice_split p xs ++ slice_split p ys
slice_split-append p y e [] ys =
    ap (λ b. cond b ([] ∷ slice_split p ys) (onto_first y (slice_split p ys))) e
slice_split-append p y e (x ∷ xs) ys =
    choice-append (p x) x (slice_split p (xs ++ y ∷ ys)) (slice_split p xs) (slice_split p ys) (HasFirst-split p xs) (slice_split-append p y e xs ys)

pub commands-append : (first second : List ℕ) → commands (first ++ 10 ∷ second) ≡ commands first ++ commands second
commands-append first second =
    ap (λ lines. filter has_word (map pieces lines)) (slice_split-append is_line_feed 10 refl first second) ∙ ap (filter has_word) (map-append pieces (slice_split is_line_feed first) (slice_split is_line_feed second)) ∙ filter-append has_word (map pieces (slice_split is_line_feed first)) (map pieces (slice_split is_line_feed second))

pub script_of-append : (front : List (List ℕ)) (flag script : List ℕ) → script_of (front ++ flag ∷ script ∷ []) ≡ cond (is_text flag (codes "-c")) (Some script) None
script_of-append [] flag script = refl
script_of-append (a ∷ []) flag script = refl
script_of-append (a ∷ b ∷ []) flag script = refl
script_of-append (a ∷ b ∷ c ∷ front) flag script = script_of-append (b ∷ c ∷ front) flag script
