-- Laws of flags: the first ones of the pieces of a text, and what is left behind them.
use Rattle.std.specs.Prelude.{◌≡◌, ◌<◌, ℕ, zero, suc, ◌==◌, ◌&&◌, Bool, true, false, List, [], ◌∷◌, length, drop, map, if◌then◌else◌, refl}
use Rattle.std.specs.List.{take_while}
use Rattle.std.proofs.Common.{sym, ◌∙◌, ap, ap₂, subst, cond, get_or, arith, true≢false}
use Rattle.std.proofs.lemmas.Bool.Decides.{nat_tests}
use Rattle.std.proofs.lemmas.List.Sums.{take_while-cons}
use Rattle.ascii.specs.Blanks.{is_blank, after_blanks}
use Rattle.ascii.specs.Pieces.{pieces, until_blank, from_blank, first_piece, behind_piece}
use Rattle.ascii.proofs.BlankLaws.{after_blanks-twice}
use Rattle.ascii.proofs.PieceLaws.{pieces-after_blanks, pieces-begun, cut}
use Rattle.lines.specs.Marks.{is_flag, after_flags}
use Rattle.words.specs.Flag.{flag_of, flag_pieces, flags, behind_pieces, behind_flags}

-- a text without leading blanks is empty or begins with no blank
data Begins : List ℕ → Type 0 where
  empty : Begins []
  full : (c : ℕ) (cs : List ℕ) → is_blank c ≡ false → Begins (c ∷ cs)

begins_by : (c : ℕ) (cs : List ℕ) (b : Bool) → is_blank c ≡ b → Begins (after_blanks cs) → Begins (if b then after_blanks cs else c ∷ cs)
begins_by c cs true h i = i
begins_by c cs false h i = full c cs h

begins : (text : List ℕ) → Begins (after_blanks text)
begins [] = empty
begins (c ∷ cs) = begins_by c cs (is_blank c) refl (begins cs)

pieces_of_begun : (text : List ℕ) → Begins text → pieces (after_blanks (from_blank text)) ≡ drop 1 (pieces text)
pieces_of_begun _ empty = refl
pieces_of_begun _ (full c cs h) = pieces-after_blanks (from_blank (c ∷ cs)) ∙ sym (ap (drop 1) (pieces-begun c cs h))

-- behind the first piece stand the others
pub pieces-behind_piece : (text : List ℕ) → pieces (behind_piece text) ≡ drop 1 (pieces text)
pieces-behind_piece text = pieces_of_begun (after_blanks text) (begins text) ∙ ap (drop 1) (pieces-after_blanks text)

drop-none : (n : ℕ) → let none : List (List ℕ) = [] in drop n none ≡ none
drop-none zero = refl
drop-none (suc n) = refl

drop-one : (n : ℕ) (ps : List (List ℕ)) → drop n (drop 1 ps) ≡ drop (suc n) ps
drop-one n [] = drop-none n
drop-one n (p ∷ ps) = refl

pub pieces-behind_pieces : (n : ℕ) (text : List ℕ) → pieces (behind_pieces n text) ≡ drop n (pieces text)
pieces-behind_pieces zero text = pieces-after_blanks text
pieces-behind_pieces (suc n) text = pieces-behind_pieces n (behind_piece text) ∙ ap (drop n) (pieces-behind_piece text) ∙ drop-one n (pieces text)

flags_dropped_by : (p : List ℕ) (ps : List (List ℕ)) (b : Bool) → drop (length (take_while is_flag ps)) ps ≡ after_flags ps
    → drop (length (if b then p ∷ take_while is_flag ps else [])) (p ∷ ps) ≡ (if b then after_flags ps else p ∷ ps)
flags_dropped_by p ps true i = i
flags_dropped_by p ps false i = refl

flags_dropped : (ps : List (List ℕ)) → drop (length (take_while is_flag ps)) ps ≡ after_flags ps
flags_dropped [] = refl
flags_dropped (p ∷ ps) = ap (λ (qs : List (List ℕ)). drop (length qs) (p ∷ ps)) (take_while-cons is_flag p ps) ∙ flags_dropped_by p ps (is_flag p) (flags_dropped ps)

-- what is left behind the flags has the pieces that are left
pub pieces-behind_flags : (text : List ℕ) → pieces (behind_flags text) ≡ after_flags (pieces text)
unfolding behind_flags
pieces-behind_flags text = pieces-behind_pieces (length (flag_pieces text)) text ∙ flags_dropped (pieces text)

-- leading blanks are no matter

behind_pieces-after_blanks : (n : ℕ) (text : List ℕ) → behind_pieces n (after_blanks text) ≡ behind_pieces n text
behind_pieces-after_blanks zero text = after_blanks-twice text
behind_pieces-after_blanks (suc n) text = ap (λ t. behind_pieces n (after_blanks (from_blank t))) (after_blanks-twice text)

flag_pieces-after_blanks : (text : List ℕ) → flag_pieces (after_blanks text) ≡ flag_pieces text
flag_pieces-after_blanks text = ap (take_while is_flag) (pieces-after_blanks text)

pub flags-after_blanks : (text : List ℕ) → flags (after_blanks text) ≡ flags text
unfolding flags
flags-after_blanks text = ap (map flag_of) (flag_pieces-after_blanks text)

pub behind_flags-after_blanks : (text : List ℕ) → behind_flags (after_blanks text) ≡ behind_flags text
unfolding behind_flags
behind_flags-after_blanks text =
    ap (λ (ps : List (List ℕ)). behind_pieces (length ps) (after_blanks text)) (flag_pieces-after_blanks text)
    ∙ behind_pieces-after_blanks (length (flag_pieces text)) text

-- a text that begins with a flag

dashes_by : (c d : ℕ) → ((c == 45) && (d == 45)) ≡ true → (c ≡ 45) × (d ≡ 45)
dashes_by c d h = (grind (arith, nat_tests), grind (arith, nat_tests))

pub dashes : (text : List ℕ) → is_flag text ≡ true → (rest : List ℕ) × (text ≡ 45 ∷ 45 ∷ rest)
dashes [] h = absurd (true≢false (sym h))
dashes (c ∷ []) h = absurd (true≢false (sym h))
dashes (c ∷ d ∷ rest) h = let both = dashes_by c d h in (rest, ap₂ (λ x y. x ∷ y ∷ rest) both.0 both.1)

dashed : (rest : List ℕ) → flag_pieces (45 ∷ 45 ∷ rest) ≡ first_piece (45 ∷ 45 ∷ rest) ∷ flag_pieces (behind_piece (45 ∷ 45 ∷ rest))
dashed rest =
    ap (take_while is_flag) (pieces-begun 45 (45 ∷ rest) refl)
    ∙ take_while-cons is_flag (until_blank (45 ∷ 45 ∷ rest)) (pieces (from_blank (45 ∷ 45 ∷ rest)))
    ∙ ap (λ (ps : List (List ℕ)). until_blank (45 ∷ 45 ∷ rest) ∷ take_while is_flag ps) (sym (pieces-after_blanks (from_blank (45 ∷ 45 ∷ rest))))

flag_pieces-flag : (text : List ℕ) → is_flag text ≡ true → flag_pieces text ≡ first_piece text ∷ flag_pieces (behind_piece text)
flag_pieces-flag text h =
    let found = dashes text h in
    subst (λ (t : List ℕ). flag_pieces t ≡ first_piece t ∷ flag_pieces (behind_piece t)) (sym found.1) (dashed found.0)

pub first_piece-flag : (text : List ℕ) → is_flag text ≡ true → is_flag (first_piece text) ≡ true
first_piece-flag text h =
    let found = dashes text h in
    subst (λ (t : List ℕ). is_flag (first_piece t) ≡ true) (sym found.1) refl

pub flags-flag : (text : List ℕ) → is_flag text ≡ true → flags text ≡ flag_of (first_piece text) ∷ flags (behind_piece text)
unfolding flags
flags-flag text h = ap (map flag_of) (flag_pieces-flag text h)

pub behind_flags-flag : (text : List ℕ) → is_flag text ≡ true → behind_flags text ≡ behind_flags (behind_piece text)
unfolding behind_flags
behind_flags-flag text h = ap (λ (ps : List (List ℕ)). behind_pieces (length ps) text) (flag_pieces-flag text h)

-- and one that doesn't

until_flag : (c d : ℕ) (ds : List ℕ) (b : Bool) → ((c == 45) && (d == 45)) ≡ false → is_flag (c ∷ (if b then [] else d ∷ until_blank ds)) ≡ false
until_flag c d ds true h = refl
until_flag c d ds false h = h

first_no_flag : (c : ℕ) (cs : List ℕ) → is_flag (c ∷ cs) ≡ false → is_flag (c ∷ until_blank cs) ≡ false
first_no_flag c [] h = refl
first_no_flag c (d ∷ ds) h = until_flag c d ds (is_blank d) h

until_blank-begun : (c : ℕ) (cs : List ℕ) → is_blank c ≡ false → until_blank (c ∷ cs) ≡ c ∷ until_blank cs
until_blank-begun c cs h = rw h refl

no_flag_pieces : (text : List ℕ) → Begins text → is_flag text ≡ false → flag_pieces text ≡ []
no_flag_pieces _ empty h = refl
no_flag_pieces _ (full c cs b) h =
    ap (take_while is_flag) (pieces-begun c cs b)
    ∙ take_while-cons is_flag (until_blank (c ∷ cs)) (pieces (from_blank (c ∷ cs)))
    ∙ ap (λ t. cond t (until_blank (c ∷ cs) ∷ take_while is_flag (pieces (from_blank (c ∷ cs)))) []) (ap is_flag (until_blank-begun c cs b) ∙ first_no_flag c cs h)

flag_pieces-none : (text : List ℕ) → after_blanks text ≡ text → is_flag text ≡ false → flag_pieces text ≡ []
flag_pieces-none text s h = no_flag_pieces text (subst Begins s (begins text)) h

pub flags-none : (text : List ℕ) → after_blanks text ≡ text → is_flag text ≡ false → flags text ≡ []
unfolding flags
flags-none text s h = ap (map flag_of) (flag_pieces-none text s h)

pub behind_flags-none : (text : List ℕ) → after_blanks text ≡ text → is_flag text ≡ false → behind_flags text ≡ text
unfolding behind_flags
behind_flags-none text s h = ap (λ (ps : List (List ℕ)). behind_pieces (length ps) text) (flag_pieces-none text s h) ∙ s

-- what stands behind a flag is shorter
pub behind_flag-shorter : (text : List ℕ) → is_flag text ≡ true → length (behind_piece text) < length text
behind_flag-shorter text h =
    let found = dashes text h in
    subst (λ (t : List ℕ). length (behind_piece t) < length t) (sym found.1) (cut (45 ∷ 45 ∷ found.0) refl (omega arith)).less

-- a flag may be cut behind its dashes

dashed_at : (rest : List ℕ) → (1 < length (45 ∷ 45 ∷ rest)) × (get_or (45 ∷ 45 ∷ rest) 1 0 < 128)
dashed_at rest = (omega arith, omega arith)

pub second_dash : (text : List ℕ) → is_flag text ≡ true → (1 < length text) × (get_or text 1 0 < 128)
second_dash text h =
    let found = dashes text h in
    subst (λ (t : List ℕ). (1 < length t) × (get_or t 1 0 < 128)) (sym found.1) (dashed_at found.0)
