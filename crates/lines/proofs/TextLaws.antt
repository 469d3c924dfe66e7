-- Laws of a whole text: it has just one list of logical lines, or is refused in just one way, and never both.
use Rattle.std.specs.Prelude.{◌≡◌, ◌≤◌, ◌⊎◌, ℕ, Bool, true, false, List, [], length, nat_le, IsUtf8, refl}
use Rattle.std.specs.Str.{is_utf8}
use Rattle.std.proofs.Common.{sym, ◌∙◌, subst, inl, inr, arith}
use Rattle.std.proofs.lemmas.Bool.{true≢false}
use Rattle.std.proofs.lemmas.Bool.Decides.{nat_tests}
use Rattle.std.proofs.lemmas.Str.{is_utf8-from_IsUtf8, IsUtf8-from_is_utf8}
use Rattle.plain.specs.Limits.{most_dockerfile_bytes}
use Rattle.plain.specs.declared.refusal.Code.TheVariants.{R01, R18}
use Rattle.plain.specs.declared.refusal.Refusal.{Refusal}
use Rattle.lines.specs.Faults.{refusal, IsAmong, IsLeast}
use Rattle.lines.proofs.FaultLaws.{IsLeast-same, none_or_least}
use Rattle.lines.specs.File.{IsFile}
use Rattle.lines.proofs.CutLaws.{structure_of}
use Rattle.lines.proofs.FileLaws.{IsFile-same}
use Rattle.lines.specs.Text.{IsShort, text_lines, first_bad_line, AreLines, IsRefused}
use Rattle.lines.specs.declared.line.Line.{Line}

-- a text has one list of logical lines at most
pub lines_same : (text : List ℕ) (a b : List Line) → AreLines text a → AreLines text b → a ≡ b
lines_same text a b h i = (IsFile-same (text_lines text) a b [] [] h.2 i.2).0

-- it is refused in one way at most
pub refusal_same : (text : List ℕ) (f g : Refusal) → IsRefused text f → IsRefused text g → f ≡ g
refusal_same text f g (inl h) (inl i) = h.1 ∙ sym i.1
refusal_same text f g (inl h) (inr (inl i)) = absurd (h.0 i.0)
refusal_same text f g (inl h) (inr (inr i)) = absurd (h.0 i.0)
refusal_same text f g (inr (inl h)) (inl i) = absurd (i.0 h.0)
refusal_same text f g (inr (inl h)) (inr (inl i)) = h.2 ∙ sym i.2
refusal_same text f g (inr (inl h)) (inr (inr i)) = absurd (h.1 i.1)
refusal_same text f g (inr (inr h)) (inl i) = absurd (i.0 h.0)
refusal_same text f g (inr (inr h)) (inr (inl i)) = absurd (i.1 h.1)
refusal_same text f g (inr (inr h)) (inr (inr i)) =
    IsLeast-same h.2.1 f g h.2.3 (subst (λ (faults : List Refusal). IsLeast faults g) (IsFile-same (text_lines text) i.2.0 h.2.0 i.2.1 h.2.1 i.2.2 h.2.2).1 i.2.3)

none_among : (fs : List Refusal) (f : Refusal) → fs ≡ [] → IsAmong f fs → ⊥
none_among fs f e h = let bad : IsAmong f [] = subst (IsAmong f) e h in bad

-- and never both
pub never_both : (text : List ℕ) (a : List Line) (f : Refusal) → AreLines text a → IsRefused text f → ⊥
never_both text a f h (inl i) = i.0 h.0
never_both text a f h (inr (inl i)) = i.1 h.1
never_both text a f h (inr (inr i)) = none_among i.2.1 f (IsFile-same (text_lines text) i.2.0 a i.2.1 [] i.2.2 h.2).1 i.2.3.0

-- and one of the two it is

pub le_or_not : (n m : ℕ) (b : Bool) → nat_le n m ≡ b → (n ≤ m) ⊎ (¬ (n ≤ m))
le_or_not n m true e = inl (grind (arith, nat_tests))
le_or_not n m false e = inr (λ h. absurd (true≢false (grind (arith, nat_tests))))

utf8_or_not : (text : List ℕ) (b : Bool) → is_utf8 text ≡ b → (IsUtf8 text) ⊎ (¬ (IsUtf8 text))
utf8_or_not text true e = inl (IsUtf8-from_is_utf8 text e)
utf8_or_not text false e = inr (λ h. true≢false (sym (is_utf8-from_IsUtf8 text h) ∙ e))

abbrev pub IsAnswered : List ℕ → Type 0
IsAnswered text = ((found : List Line) × AreLines text found) ⊎ ((f : Refusal) × IsRefused text f)

read_answered : (text : List ℕ) (found : List Line) (faults : List Refusal) → IsShort text → IsUtf8 text → IsFile (text_lines text) found faults → (faults ≡ []) ⊎ ((f : Refusal) × IsLeast faults f) → IsAnswered text
read_answered text found faults s u file (inl fine) = inl (found, (s, u, subst (IsFile (text_lines text) found) fine file))
read_answered text found faults s u file (inr told) = inr (told.0, inr (inr (s, u, (found, faults, file, told.1))))

short_answered : (text : List ℕ) → IsShort text → (IsUtf8 text) ⊎ (¬ (IsUtf8 text)) → IsAnswered text
short_answered text s (inl u) =
    let has = structure_of (text_lines text) in
    read_answered text has.found has.faults s u has.file (none_or_least has.faults)
short_answered text s (inr n) = inr (refusal R01 (first_bad_line text), inr (inl (s, n, refl)))

text_answered : (text : List ℕ) → (IsShort text) ⊎ (¬ (IsShort text)) → IsAnswered text
text_answered text (inl s) = short_answered text s (utf8_or_not text (is_utf8 text) refl)
text_answered text (inr n) = inr (refusal R18 0, inl (n, refl))

pub answered : (text : List ℕ) → IsAnswered text
answered text = text_answered text (le_or_not (length text) most_dockerfile_bytes (nat_le (length text) most_dockerfile_bytes) refl)
