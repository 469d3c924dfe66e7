-- What is left of a line after some pieces.
use Rattle.std.proofs.Common.{◌≡◌, ◌<◌, ◌-◌, ◌++◌, ◌∙◌, ℕ, zero, suc, Bool, true, false, List, [], ◌∷◌, length, refl, sym, ap, arith, append_assoc, if◌then◌else◌}
use Rattle.ascii.specs.Blanks.{is_blank, after_blanks}
use Rattle.ascii.specs.Pieces.{from_blank, first_piece, behind_piece, is_filled}
use Rattle.words.specs.Flag.{behind_pieces}
use Rattle.pointed.specs.PrivateSpot.{IsEndOf}

left-whole : (text : List ℕ) → IsEndOf text text
left-whole text = ([], refl)

left-cons : (c : ℕ) (text left : List ℕ) → IsEndOf text left → IsEndOf (c ∷ text) left
left-cons c text left h = (c ∷ h.0, ap (λ (t : List ℕ). c ∷ t) h.1)

left-trans : (one two three : List ℕ) → IsEndOf one two → IsEndOf two three → IsEndOf one three
left-trans one two three h k = (h.0 ++ k.0, h.1 ∙ ap (λ (t : List ℕ). h.0 ++ t) k.1 ∙ sym (append_assoc h.0 k.0 three))

blanks-left_by : (c : ℕ) (cs : List ℕ) (b : Bool) → IsEndOf cs (after_blanks cs) → IsEndOf (c ∷ cs) (if b then after_blanks cs else c ∷ cs)
blanks-left_by c cs true h = left-cons c cs (after_blanks cs) h
blanks-left_by c cs false h = left-whole (c ∷ cs)

pub blanks-left : (text : List ℕ) → IsEndOf text (after_blanks text)
blanks-left [] = left-whole []
blanks-left (c ∷ cs) = blanks-left_by c cs (is_blank c) (blanks-left cs)

from-left_by : (c : ℕ) (cs : List ℕ) (b : Bool) → IsEndOf cs (from_blank cs) → IsEndOf (c ∷ cs) (if b then c ∷ cs else from_blank cs)
from-left_by c cs true h = left-whole (c ∷ cs)
from-left_by c cs false h = left-cons c cs (from_blank cs) h

from-left : (text : List ℕ) → IsEndOf text (from_blank text)
from-left [] = left-whole []
from-left (c ∷ cs) = from-left_by c cs (is_blank c) (from-left cs)

pub piece-left : (text : List ℕ) → IsEndOf text (behind_piece text)
piece-left text =
    left-trans text (after_blanks text) (behind_piece text) (blanks-left text)
    (left-trans (after_blanks text) (from_blank (after_blanks text)) (behind_piece text) (from-left (after_blanks text)) (blanks-left (from_blank (after_blanks text))))

pub pieces-left : (count : ℕ) (text : List ℕ) → IsEndOf text (behind_pieces count text)
pieces-left zero text = blanks-left text
pieces-left (suc n) text = left-trans text (behind_piece text) (behind_pieces n (behind_piece text)) (piece-left text) (pieces-left n (behind_piece text))

-- what is left after the name of an instruction and so many pieces more
pub named-left : (count : ℕ) (line : List ℕ) → IsEndOf line (behind_pieces count (behind_piece line))
named-left count line = left-trans line (behind_piece line) (behind_pieces count (behind_piece line)) (piece-left line) (pieces-left count (behind_piece line))

-- one piece fewer of a text is as many of what follows its first piece
pub one-piece : (left fewer : ℕ) (rest behind text : List ℕ) → 0 < left → fewer ≡ left - 1 → behind ≡ behind_piece rest → behind_pieces left rest ≡ text
    → behind_pieces fewer behind ≡ text
one-piece left fewer rest behind text l f b h =
    let more : suc fewer ≡ left = omega arith in
    ap (behind_pieces fewer) b ∙ ap (λ n. behind_pieces n rest) more ∙ h

never : (t : Bool) → t ≡ false → t ≡ true → ⊥
never t e f = cc

-- a first piece is of something
pub something : (left : List ℕ) → is_filled (first_piece left) ≡ true → 0 < length left
something [] h = absurd (never false refl h)
something (c ∷ cs) h = omega arith
