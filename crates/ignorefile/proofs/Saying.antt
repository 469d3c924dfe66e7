-- What a file's lines say, one line after another.
use Rattle.std.proofs.Common.{◌≡◌, ◌∙◌, ◌+◌, ◌++◌, ℕ, Bool, if◌then◌else◌, List, [], ◌∷◌, Some, None, Result, Ok, Err, sym, ap, refl, append_assoc}
use Rattle.std.specs.Str.Lines.{lines}
use Rattle.ignorefile.specs.declared.line.Line.{Line}
use Rattle.ignorefile.specs.File.{line_of, lines_from, all_say, is_line, numbers_from}

-- lines that were said, before what others say
abbrev pub behind : List Line → Result (List Line) ℕ → Result (List Line) ℕ
behind front (Ok lines) = Ok (front ++ lines)
behind front (Err bad) = Err bad

behind-line : (front : List Line) (number : ℕ) (line : Line) (more : Result (List Line) ℕ) → behind (front ++ line ∷ []) more ≡ behind front (all_say number (Some (Some line)) more)
behind-line front number line (Ok lines) = ap Ok (append_assoc front (line ∷ []) lines)
behind-line front number line (Err bad) = refl

behind-nothing : (front : List Line) (number : ℕ) (more : Result (List Line) ℕ) → behind front more ≡ behind front (all_say number (Some None) more)
behind-nothing front number (Ok lines) = refl
behind-nothing front number (Err bad) = refl

abbrev says : List Line → ℕ → List (List ℕ) → Result (List Line) ℕ
says front number texts = behind front (lines_from number texts)

pub said-line : (front : List Line) (number : ℕ) (text rest bytes : List ℕ) (line : Line) → lines bytes ≡ text ∷ lines rest → line_of text ≡ Some (Some line) → says (front ++ line ∷ []) (number + 1) (lines rest) ≡ says front number (lines bytes)
said-line front number text rest bytes line cut is =
    behind-line front number line (lines_from (number + 1) (lines rest)) ∙ ap (λ found. behind front (all_say number found (lines_from (number + 1) (lines rest)))) (sym is) ∙ ap (λ texts. says front number texts) (sym cut)

pub said-nothing : (front : List Line) (number : ℕ) (text rest bytes : List ℕ) → lines bytes ≡ text ∷ lines rest → line_of text ≡ Some None → says front (number + 1) (lines rest) ≡ says front number (lines bytes)
said-nothing front number text rest bytes cut is =
    behind-nothing front number (lines_from (number + 1) (lines rest)) ∙ ap (λ found. behind front (all_say number found (lines_from (number + 1) (lines rest)))) (sym is) ∙ ap (λ texts. says front number texts) (sym cut)

pub said-bad : (front : List Line) (number : ℕ) (text rest bytes : List ℕ) → lines bytes ≡ text ∷ lines rest → line_of text ≡ None → says front number (lines bytes) ≡ Err number
said-bad front number text rest bytes cut is = ap (λ texts. says front number texts) cut ∙ ap (λ found. behind front (all_say number found (lines_from (number + 1) (lines rest)))) is

-- one line's number, before those of the others
pub numbered : (front front' : List ℕ) (number : ℕ) (text rest bytes : List ℕ) (has : Bool) → lines bytes ≡ text ∷ lines rest → has ≡ is_line (line_of text) → front' ≡ front ++ (if has then number ∷ [] else [])
    → front' ++ numbers_from (number + 1) (lines rest) ≡ front ++ numbers_from number (lines bytes)
numbered front front' number text rest bytes has cut is more =
    ap (λ (f : List ℕ). f ++ numbers_from (number + 1) (lines rest)) more ∙ append_assoc front (if has then number ∷ [] else []) (numbers_from (number + 1) (lines rest))
    ∙ ap (λ (b : Bool). front ++ ((if b then number ∷ [] else []) ++ numbers_from (number + 1) (lines rest))) is ∙ ap (λ texts. front ++ numbers_from number texts) (sym cut)
