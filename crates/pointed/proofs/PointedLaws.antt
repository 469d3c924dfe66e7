-- Laws of the word that is pointed at: it is one of the line.
use Rattle.std.proofs.Common.{◌≡◌, ◌<◌, ◌-◌, ◌+◌, ◌++◌, ◌&&◌, ◌||◌, ◌∙◌, ℕ, zero, suc, Bool, true, false, List, [], ◌∷◌, Option, Some, None, length, take, refl, sym, ap, subst, arith, append_assoc, if◌then◌else◌}
use Rattle.std.specs.List.{list_any}
use Rattle.std.specs.Option.{option_and_then}
use Rattle.std.proofs.lemmas.List.{length-append, take_at}
use Rattle.std.proofs.lemmas.Option.{none-some, same_Some}
use Rattle.plain.specs.declared.refusal.Code.{Code}
use Rattle.plain.specs.declared.refusal.Code.TheVariants.{R04}
use Rattle.ascii.specs.Blanks.{is_blank, after_blanks}
use Rattle.ascii.specs.Pieces.{until_blank, from_blank, first_piece, behind_piece, is_filled}
use Rattle.ascii.proofs.BlankLaws.{after_blanks-twice}
use Rattle.words.specs.Flag.{behind_pieces}
use Rattle.sentences.specs.Subject.{subject_of}
use Rattle.pointed.specs.Pointing.{number_of, pointed, spot_after}
use Rattle.pointed.specs.Spot.{Spot, is_whole, spot_at}
use Rattle.pointed.specs.Stands.{begins_with_blank, ends_in_blank, IsWordOf}
use Rattle.pointed.proofs.SpotFacts.{something}

never : (t : Bool) → t ≡ false → t ≡ true → ⊥
never t e f = cc

-- ---- texts that end in a blank

blank-before : (c : ℕ) (text : List ℕ) → is_blank c ≡ true → ends_in_blank text ≡ true → ends_in_blank (c ∷ text) ≡ true
blank-before c [] b h = b
blank-before c (d ∷ ds) b h = h

ends-after : (text : List ℕ) (c : ℕ) (cs : List ℕ) → ends_in_blank (c ∷ cs) ≡ true → ends_in_blank (text ++ c ∷ cs) ≡ true
ends-after [] c cs h = h
ends-after (d ∷ []) c cs h = h
ends-after (d ∷ e ∷ es) c cs h = ends-after (e ∷ es) c cs h

ends-both : (one other : List ℕ) → ends_in_blank one ≡ true → ends_in_blank other ≡ true → ends_in_blank (one ++ other) ≡ true
ends-both [] other h k = k
ends-both (c ∷ []) [] h k = h
ends-both (c ∷ []) (d ∷ ds) h k = k
ends-both (c ∷ d ∷ ds) other h k = ends-both (d ∷ ds) other h k

-- ---- a piece of a text, and what stands on both sides of it

piece-and-rest_by : (c : ℕ) (cs : List ℕ) (b : Bool) → cs ≡ until_blank cs ++ from_blank cs
    → c ∷ cs ≡ (if b then [] else c ∷ until_blank cs) ++ (if b then c ∷ cs else from_blank cs)
piece-and-rest_by c cs true h = refl
piece-and-rest_by c cs false h = ap (λ (t : List ℕ). c ∷ t) h

piece-and-rest : (text : List ℕ) → text ≡ until_blank text ++ from_blank text
piece-and-rest [] = refl
piece-and-rest (c ∷ cs) = piece-and-rest_by c cs (is_blank c) (piece-and-rest cs)

no-blank_by : (c : ℕ) (cs : List ℕ) (b : Bool) → is_blank c ≡ b → list_any is_blank (until_blank cs) ≡ false
    → list_any is_blank (if b then [] else c ∷ until_blank cs) ≡ false
no-blank_by c cs true e h = refl
no-blank_by c cs false e h = ap (λ t. t || list_any is_blank (until_blank cs)) e ∙ h

no-blank : (text : List ℕ) → list_any is_blank (until_blank text) ≡ false
no-blank [] = refl
no-blank (c ∷ cs) = no-blank_by c cs (is_blank c) refl (no-blank cs)

blank-first_by : (c : ℕ) (cs : List ℕ) (b : Bool) → is_blank c ≡ b → begins_with_blank (from_blank cs) ≡ true
    → begins_with_blank (if b then c ∷ cs else from_blank cs) ≡ true
blank-first_by c cs true e h = e
blank-first_by c cs false e h = h

blank-first : (text : List ℕ) → begins_with_blank (from_blank text) ≡ true
blank-first [] = refl
blank-first (c ∷ cs) = blank-first_by c cs (is_blank c) refl (blank-first cs)

-- ---- what is left of a text, of which the part before it ends in a blank

pub record IsCut (text left : List ℕ) : Type 0 where
  pub front : List ℕ
  pub is : text ≡ front ++ left
  pub ends : 0 < length left → ends_in_blank front ≡ true

cut-whole : (text : List ℕ) → IsCut text text
cut-whole text = record { front = []; is = refl; ends = λ l. refl }

cut-blanks_by : (c : ℕ) (cs : List ℕ) (b : Bool) → is_blank c ≡ b → IsCut cs (after_blanks cs) → IsCut (c ∷ cs) (if b then after_blanks cs else c ∷ cs)
cut-blanks_by c cs true e cut =
    record { front = c ∷ cut.front; is = ap (λ (t : List ℕ). c ∷ t) cut.is; ends = λ l. blank-before c cut.front e (cut.ends l) }
cut-blanks_by c cs false e cut = cut-whole (c ∷ cs)

cut-blanks : (text : List ℕ) → IsCut text (after_blanks text)
cut-blanks [] = cut-whole []
cut-blanks (c ∷ cs) = cut-blanks_by c cs (is_blank c) refl (cut-blanks cs)

more-left : (front left : List ℕ) → 0 < length left → 0 < length (front ++ left)
more-left front left l = omega (arith, length-append front left)

cut-twice : (one two three : List ℕ) → IsCut one two → IsCut two three → IsCut one three
cut-twice one two three first second = record {
  front = first.front ++ second.front;
  is = first.is ∙ ap (λ (t : List ℕ). first.front ++ t) second.is ∙ sym (append_assoc first.front second.front three);
  ends = λ l.
      ends-both first.front second.front
      (first.ends (subst (λ (t : List ℕ). 0 < length t) (sym second.is) (more-left second.front three l))) (second.ends l);
}

after-piece_by : (piece : List ℕ) (c : ℕ) (cs : List ℕ) (b : Bool) → is_blank c ≡ b → b ≡ true → IsCut (piece ++ c ∷ cs) (if b then after_blanks cs else c ∷ cs)
after-piece_by piece c cs true e h =
    let cut = cut-blanks cs in
    record {
      front = piece ++ c ∷ cut.front;
      is = ap (λ (t : List ℕ). piece ++ c ∷ t) cut.is ∙ sym (append_assoc piece (c ∷ cut.front) (after_blanks cs));
      ends = λ l. ends-after piece c cut.front (blank-before c cut.front e (cut.ends l));
    }
after-piece_by piece c cs false e h = absurd (never false refl h)

after-piece : (piece text : List ℕ) → begins_with_blank text ≡ true → IsCut (piece ++ text) (after_blanks text)
after-piece piece [] h = record { front = piece; is = refl; ends = λ l. absurd (omega (arith, l)) }
after-piece piece (c ∷ cs) h = after-piece_by piece c cs (is_blank c) refl h

cut-piece : (text : List ℕ) → IsCut text (behind_piece text)
cut-piece text =
    let trimmed = after_blanks text in
    cut-twice text trimmed (behind_piece text) (cut-blanks text)
    (subst (λ (t : List ℕ). IsCut t (behind_piece text)) (sym (piece-and-rest trimmed))
    (after-piece (until_blank trimmed) (from_blank trimmed) (blank-first trimmed)))

pub cut-pieces : (count : ℕ) (text : List ℕ) → IsCut text (behind_pieces count text)
cut-pieces zero text = cut-blanks text
cut-pieces (suc n) text = cut-twice text (behind_piece text) (behind_pieces n (behind_piece text)) (cut-piece text) (cut-pieces n (behind_piece text))

pub trimmed-pieces : (count : ℕ) (text : List ℕ) → after_blanks (behind_pieces count text) ≡ behind_pieces count text
trimmed-pieces zero text = after_blanks-twice text
trimmed-pieces (suc n) text = trimmed-pieces n (behind_piece text)

-- ---- the word

abbrev pub made : List ℕ → List ℕ → Spot
made line left = record { column = (length line - length left) + 1; before = take (length line - length left) line; word = first_piece left }

pub front-is : (line left : List ℕ) (cut : IsCut line left) → take (length line - length left) line ≡ cut.front
front-is line left cut =
    let all : length line ≡ length cut.front + length left = ap length cut.is ∙ length-append cut.front left in
    let count : length line - length left ≡ length cut.front = omega (arith, all) in
    ap (λ n. take n line) count ∙ ap (take (length cut.front)) cut.is ∙ take_at cut.front left (length cut.front) refl

pub is-word : (line left : List ℕ) → IsCut line left → after_blanks left ≡ left → is_filled (first_piece left) ≡ true → IsWordOf line (made line left)
is-word line left cut trimmed filled =
    let all : length line ≡ length cut.front + length left = ap length cut.is ∙ length-append cut.front left in
    let count : length line - length left ≡ length cut.front = omega (arith, all) in
    let before : take (length line - length left) line ≡ cut.front = front-is line left cut in
    let parts : left ≡ first_piece left ++ from_blank left =
    piece-and-rest left ∙ ap (λ (piece : List ℕ). piece ++ from_blank left) (sym (ap until_blank trimmed)) in
    record {
      after = from_blank left;
      is = cut.is ∙ (λ i. sym before i ++ parts i);
      column = ap (λ n. n + 1) (count ∙ sym (ap length before));
      filled = λ none. never false refl (sym (ap is_filled none) ∙ filled);
      no_blank = no-blank (after_blanks left);
      begins = ap ends_in_blank before ∙ cut.ends (something left filled);
      ends = blank-first left;
    }

word_by : (line left : List ℕ) → IsCut line left → after_blanks left ≡ left → (spot : Spot) (filled whole : Bool) → is_filled (first_piece left) ≡ filled
    → (if filled && whole then Some (made line left) else None) ≡ Some spot → IsWordOf line spot
word_by line left cut trimmed spot true true f e = subst (IsWordOf line) (same_Some (made line left) spot e) (is-word line left cut trimmed f)
word_by line left cut trimmed spot true false f e = absurd (none-some spot e)
word_by line left cut trimmed spot false whole f e = absurd (none-some spot e)

word-at : (line left : List ℕ) → IsCut line left → after_blanks left ≡ left → (spot : Spot) → spot_at line left ≡ Some spot → IsWordOf line spot
unfolding spot_at
word-at line left cut trimmed spot e = word_by line left cut trimmed spot (is_filled (first_piece left)) (is_whole (first_piece left)) refl e

word-after : (line : List ℕ) (number : Option ℕ) (spot : Spot) → option_and_then (spot_after line) number ≡ Some spot → IsWordOf line spot
word-after line None spot e = absurd (none-some spot e)
word-after line (Some number) spot e =
    word-at line (behind_pieces number (behind_piece line))
    (cut-twice line (behind_piece line) (behind_pieces number (behind_piece line)) (cut-piece line) (cut-pieces number (behind_piece line)))
    (trimmed-pieces number (behind_piece line)) spot e

-- what is pointed at is a word of the line
pub pointed-is : (code : Code) (line : List ℕ) (spot : Spot) → pointed code line ≡ Some spot → IsWordOf line spot
unfolding pointed
pointed-is R04 line spot e = word-at line (after_blanks line) (cut-blanks line) (after_blanks-twice line) spot e
pointed-is code line spot e = word-after line (number_of code (subject_of line) (behind_piece line)) spot e
