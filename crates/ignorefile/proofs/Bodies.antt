-- What a line's text says, by how it begins.
use Rattle.std.proofs.Common.{◌≡◌, ◌≢◌, ◌∙◌, ◌==◌, ◌<◌, ℕ, true, false, List, [], ◌∷◌, Some, None, ap, refl, length, arith, cond}
use Rattle.std.proofs.lemmas.Bool.{false_from_ne_true, eqb-true}
use Rattle.std.specs.Str.{is_utf8}
use Rattle.ascii.specs.Blanks.{after_blanks, trimmed}
use Rattle.ignorefile.specs.File.{body_of, exception_of, pattern_of, is_comment, line_of}

pub body-exception : (text rest : List ℕ) → text ≡ 33 ∷ rest → body_of text ≡ exception_of (after_blanks rest)
body-exception text rest e = ap (λ t. body_of t) e

pub body-plain : (text : List ℕ) → 0 < length text → ((rest : List ℕ) → text ≢ 33 ∷ rest) → body_of text ≡ pattern_of false text
body-plain [] some none = absurd (omega arith)
body-plain (b ∷ bs) some none =
    ap (λ test. cond test (exception_of (after_blanks bs)) (pattern_of false (b ∷ bs))) (false_from_ne_true (b == 33) (λ h. none bs (ap (λ c. c ∷ bs) (eqb-true b 33 h))))

pub exception-some : (text : List ℕ) → 0 < length text → exception_of text ≡ pattern_of true text
exception-some [] some = absurd (omega arith)
exception-some (b ∷ bs) some = refl

pub line-bad : (bytes : List ℕ) → is_utf8 bytes ≡ false → line_of bytes ≡ None
line-bad bytes h = ap (λ test. cond test (cond (is_comment bytes) (Some None) (body_of (trimmed bytes))) None) h

pub line-comment : (bytes : List ℕ) → is_utf8 bytes ≡ true → is_comment bytes ≡ true → line_of bytes ≡ Some None
line-comment bytes h i =
    ap (λ test. cond test (cond (is_comment bytes) (Some None) (body_of (trimmed bytes))) None) h ∙ ap (λ test. cond test (Some None) (body_of (trimmed bytes))) i

pub line-body : (bytes : List ℕ) → is_utf8 bytes ≡ true → is_comment bytes ≡ false → line_of bytes ≡ body_of (trimmed bytes)
line-body bytes h i =
    ap (λ test. cond test (cond (is_comment bytes) (Some None) (body_of (trimmed bytes))) None) h ∙ ap (λ test. cond test (Some None) (body_of (trimmed bytes))) i
