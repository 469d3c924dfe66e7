-- Laws of a word's place among the pieces of its line.
use Rattle.std.proofs.Common.{◌≡◌, ◌<◌, ◌≤◌, ◌-◌, ◌+◌, ◌++◌, ◌&&◌, ◌∙◌, ℕ, suc, Bool, true, false, List, [], ◌∷◌, Option, Some, None, length, drop, refl, sym, ap, subst, arith, append_assoc, append-nil, if◌then◌else◌}
use Rattle.std.specs.Option.{option_and_then}
use Rattle.std.proofs.lemmas.List.{length-append, length-drop, drop-append-le}
use Rattle.std.proofs.lemmas.Option.{none-some, same_Some}
use Rattle.ascii.specs.Blanks.{is_blank, after_blanks}
use Rattle.ascii.specs.Pieces.{if_any, pieces, first_piece, behind_piece, is_filled}
use Rattle.ascii.proofs.PieceLaws.{cut, pieces_from, pieces-read}
use Rattle.words.specs.Flag.{behind_pieces}
use Rattle.words.proofs.FlagLaws.{pieces-behind_piece, pieces-behind_pieces}
use Rattle.pointed.specs.Pointing.{spot_after}
use Rattle.pointed.specs.Spot.{Spot, is_whole, spot_at}
use Rattle.pointed.specs.Stands.{ends_in_blank, IsPieceOf, pieces_before}
use Rattle.pointed.proofs.PointedLaws.{IsCut, cut-pieces, front-is, is-word, made, trimmed-pieces}
use Rattle.pointed.proofs.SpotFacts.{something}

-- ---- the pieces of two texts, of which the first ends in a blank

seam_by : (part : List ℕ) (c d : ℕ) (ds other : List ℕ) (b : Bool)
    → pieces_from [] (d ∷ ds ++ other) ≡ pieces_from [] (d ∷ ds) ++ pieces_from [] other
    → pieces_from (part ++ c ∷ []) (d ∷ ds ++ other) ≡ pieces_from (part ++ c ∷ []) (d ∷ ds) ++ pieces_from [] other
    → (if b then if_any part ++ pieces_from [] (d ∷ ds ++ other) else pieces_from (part ++ c ∷ []) (d ∷ ds ++ other))
    ≡ (if b then if_any part ++ pieces_from [] (d ∷ ds) else pieces_from (part ++ c ∷ []) (d ∷ ds)) ++ pieces_from [] other
seam_by part c d ds other true none more =
    ap (λ (ps : List (List ℕ)). if_any part ++ ps) none ∙ sym (append_assoc (if_any part) (pieces_from [] (d ∷ ds)) (pieces_from [] other))
seam_by part c d ds other false none more = more

seam : (part one other : List ℕ) → 0 < length one → ends_in_blank one ≡ true → pieces_from part (one ++ other) ≡ pieces_from part one ++ pieces_from [] other
seam part [] other l e = absurd (omega (arith, l))
seam part (c ∷ []) other l e = rw e (ap (λ (ps : List (List ℕ)). ps ++ pieces_from [] other) (sym (append-nil (if_any part))))
seam part (c ∷ d ∷ ds) other l e =
    seam_by part c d ds other (is_blank c) (seam [] (d ∷ ds) other (omega arith) e) (seam (part ++ c ∷ []) (d ∷ ds) other (omega arith) e)

pieces-seam : (one other : List ℕ) → ends_in_blank one ≡ true → pieces (one ++ other) ≡ pieces one ++ pieces other
pieces-seam [] other e = refl
pieces-seam (c ∷ cs) other e =
    sym (pieces-read (c ∷ cs ++ other)) ∙ seam [] (c ∷ cs) other (omega arith) e
    ∙ (λ i. pieces-read (c ∷ cs) i ++ pieces-read other i)

-- ---- the place of a word

pieces-are : (line left : List ℕ) (is_cut : IsCut line left) → after_blanks left ≡ left → is_filled (first_piece left) ≡ true
    → pieces line ≡ pieces (made line left).before ++ first_piece left ∷ pieces (behind_piece left)
pieces-are line left is_cut trimmed filled =
    ap pieces is_cut.is ∙ pieces-seam is_cut.front left (is_cut.ends (something left filled))
    ∙ (λ i. pieces (sym (front-is line left is_cut) i) ++ (cut left trimmed (something left filled)).first i)

counted : (line left before : List ℕ) (number : ℕ) (behind : List (List ℕ)) → pieces line ≡ pieces before ++ left ∷ behind
    → left ∷ behind ≡ drop number (pieces line) → length (pieces before) ≡ number
counted line left before number behind are rest =
    let all : length (pieces line) ≡ length (pieces before) + suc (length behind) = ap length are ∙ length-append (pieces before) (left ∷ behind) in
    let some : suc (length behind) ≡ length (pieces line) - number = ap length rest ∙ length-drop number (pieces line) in
    omega (arith, all, some)

placed : (line : List ℕ) (number : ℕ) → is_filled (first_piece (behind_pieces number line)) ≡ true → IsPieceOf line number (made line (behind_pieces number line))
placed line number filled =
    let left = behind_pieces number line in
    let is_cut = cut-pieces number line in
    let trimmed : after_blanks left ≡ left = trimmed-pieces number line in
    let are = pieces-are line left is_cut trimmed filled in
    record {
      is_word = is-word line left is_cut trimmed filled;
      behind = pieces (behind_piece left);
      pieces_are = are;
      count =
          counted line (first_piece left) (made line left).before number (pieces (behind_piece left)) are
          (sym (cut left trimmed (something left filled)).first ∙ pieces-behind_pieces number line);
    }

placed_by : (line : List ℕ) (number : ℕ) (spot : Spot) (filled whole : Bool) → is_filled (first_piece (behind_pieces number line)) ≡ filled
    → (if filled && whole then Some (made line (behind_pieces number line)) else None) ≡ Some spot → IsPieceOf line number spot
placed_by line number spot true true f e = subst (IsPieceOf line number) (same_Some (made line (behind_pieces number line)) spot e) (placed line number f)
placed_by line number spot true false f e = absurd (none-some spot e)
placed_by line number spot false whole f e = absurd (none-some spot e)

pub piece-at : (line : List ℕ) (number : ℕ) (spot : Spot) → spot_at line (behind_pieces number line) ≡ Some spot → IsPieceOf line number spot
unfolding spot_at
piece-at line number spot e =
    placed_by line number spot (is_filled (first_piece (behind_pieces number line))) (is_whole (first_piece (behind_pieces number line))) refl e

-- ---- a word after the name of the instruction

-- a word is the one of this number among the pieces after the name of a line's instruction
pub record IsAfterName (line : List ℕ) (number : ℕ) (spot : Spot) : Type 0 where
  pub place : IsPieceOf line (number + 1) spot
  pub pieces_are : pieces (behind_piece line) ≡ pieces_before spot ++ spot.word ∷ place.behind
  pub count : length (pieces_before spot) ≡ number

pub after-name : (line : List ℕ) (number : ℕ) (spot : Spot) → spot_after line number ≡ Some spot → IsAfterName line number spot
after-name line number spot e =
    let more : suc number ≡ number + 1 = omega arith in
    let place = subst (λ (n : ℕ). IsPieceOf line n spot) more (piece-at line (suc number) spot e) in
    let named : 1 ≤ length (pieces spot.before) = omega (arith, place.count) in
    record {
      place = place;
      pieces_are =
          pieces-behind_piece line ∙ ap (drop 1) place.pieces_are ∙ drop-append-le 1 (pieces spot.before) (spot.word ∷ place.behind) named;
      count = omega (arith, length-drop 1 (pieces spot.before), place.count);
    }

-- what is pointed at by a number, if there is one
pub record IsFound (line : List ℕ) (number : Option ℕ) (spot : Spot) : Type 0 where
  pub at : ℕ
  pub is : number ≡ Some at
  pub place : IsAfterName line at spot

pub found-is : (line : List ℕ) (number : Option ℕ) (spot : Spot) → option_and_then (spot_after line) number ≡ Some spot → IsFound line number spot
found-is line None spot e = absurd (none-some spot e)
found-is line (Some at) spot e = record { at = at; is = refl; place = after-name line at spot e }
