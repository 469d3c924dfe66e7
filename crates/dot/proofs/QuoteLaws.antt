-- A quoted string ends at its own quote.
use Rattle.std.specs.Prelude.{◌≡◌, ◌<◌, ℕ, ◌-◌, ◌/◌, ◌%◌, ◌==◌, ◌&&◌, Bool, true, false, Some, List, [], ◌∷◌, ◌++◌, codes, refl, if◌then◌else◌}
use Rattle.std.proofs.Common.{◌∙◌, ap, arith, append_assoc}
use Rattle.std.proofs.lemmas.Bool.Decides.{nat_tests}
use Rattle.std.specs.Fmt.{digit_glyph}
use Rattle.llb.specs.declared.op.Op.{Op}
use Rattle.dot.specs.Quoted.{after_quote, is_printed, numbered, shown_byte, shown, in_rows, row_width, rows}
use Rattle.dot.specs.Labels.{Titles, vertex_text, lines_text, label}

-- the end of a quoted string isn't before or among these bytes
abbrev IsPassed : List ℕ → Type 0
IsPassed front = (rest : List ℕ) → after_quote false (front ++ rest) ≡ after_quote false rest

-- one after another
passed_both : (front more : List ℕ) → IsPassed front → IsPassed more → IsPassed (front ++ more)
passed_both front more one two rest = ap (after_quote false) (append_assoc front more rest) ∙ (one (more ++ rest) ∙ two rest)

-- a byte that is neither a quote nor a backslash
passed_one : (b : ℕ) → (b == 34) ≡ false → (b == 92) ≡ false → IsPassed (b ∷ [])
passed_one b quote escape rest =
    ap (λ t. if t then Some rest else after_quote (b == 92) rest) quote ∙ ap (λ t. after_quote t rest) escape

plain_digit : (d code : ℕ) → (code < 48) → (digit_glyph false d == code) ≡ false
plain_digit d code low = grind (arith, nat_tests)

no_escape_digit : (d : ℕ) → (digit_glyph false d == 92) ≡ false
no_escape_digit d = grind (arith, nat_tests)

passed_numbered : (b : ℕ) → IsPassed (numbered b)
passed_numbered b =
    passed_both (codes "\\\\x") (digit_glyph false (b / 16) ∷ (digit_glyph false (b % 16) ∷ []))
    (λ rest. refl)
    (passed_both (digit_glyph false (b / 16) ∷ []) (digit_glyph false (b % 16) ∷ [])
    (passed_one (digit_glyph false (b / 16)) (plain_digit (b / 16) 34 (omega arith)) (no_escape_digit (b / 16)))
    (passed_one (digit_glyph false (b % 16)) (plain_digit (b % 16) 34 (omega arith)) (no_escape_digit (b % 16))))

-- by the tests on a byte, in their order
passed_by : (b : ℕ) (quote escape named printed : Bool) → (b == 34) ≡ quote → (b == 92) ≡ escape
    → IsPassed (if quote then 92 ∷ (34 ∷ []) else (if escape then 92 ∷ (92 ∷ []) else (if named then codes "&amp;" else (if printed then b ∷ [] else numbered b))))
passed_by b true escape named printed q e = λ rest. refl
passed_by b false true named printed q e = λ rest. refl
passed_by b false false true printed q e = λ rest. refl
passed_by b false false false true q e = passed_one b q e
passed_by b false false false false q e = passed_numbered b

passed_byte : (b : ℕ) → IsPassed (shown_byte b)
unfolding shown_byte
passed_byte b = passed_by b (b == 34) (b == 92) (b == 38) (is_printed b) refl refl

passed_shown : (text : List ℕ) → IsPassed (shown text)
passed_shown [] = λ rest. refl
passed_shown (b ∷ bs) = passed_both (shown_byte b) (shown bs) (passed_byte b) (passed_shown bs)

-- by whether a row ends at a byte
passed_row : (ends : Bool) (b : ℕ) (broken whole : List ℕ) → IsPassed broken → IsPassed whole
    → IsPassed (if ends then codes "\\l" ++ broken else shown_byte b ++ whole)
passed_row true b broken whole one two = passed_both (codes "\\l") broken (λ rest. refl) one
passed_row false b broken whole one two = passed_both (shown_byte b) whole (passed_byte b) two

passed_in_rows : (room : ℕ) (text : List ℕ) → IsPassed (in_rows room text)
passed_in_rows room [] = λ rest. refl
passed_in_rows room (b ∷ bs) =
    passed_row (b == 32 && room == 0) b (in_rows row_width bs) (in_rows (room - 1) bs) (passed_in_rows row_width bs) (passed_in_rows (room - 1) bs)

passed_rows : (text : List ℕ) → IsPassed (rows text)
passed_rows [] = λ rest. refl
passed_rows (b ∷ bs) = passed_both (in_rows row_width (b ∷ bs)) (codes "\\l") (passed_in_rows row_width (b ∷ bs)) (λ rest. refl)

pub text_ends : (text rest : List ℕ) → after_quote false (shown text ++ 34 ∷ rest) ≡ Some rest
text_ends text rest = passed_shown text (34 ∷ rest)

pub label_ends : (titles : Titles) (lines : List ℕ) (op : Op) (rest : List ℕ) → after_quote false (label titles lines op ++ 34 ∷ rest) ≡ Some rest
label_ends titles lines op rest =
    passed_both (rows (vertex_text titles lines op)) (rows (lines_text lines)) (passed_rows (vertex_text titles lines op)) (passed_rows (lines_text lines)) (34 ∷ rest)
