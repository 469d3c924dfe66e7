-- A text without `<` has no mark.
use Rattle.std.specs.Prelude.{◌≡◌, ◌<◌, ℕ, suc, ◌==◌, ◌&&◌, Bool, true, false, List, [], ◌∷◌, Option, None, Some, is_some, length, slice_index, filter, filter_map, if◌then◌else◌, refl}
use Rattle.std.specs.List.{slice_split, onto_first, cons_option}
use Rattle.std.proofs.Common.{cond, ◌∙◌, ap, arith}
use Rattle.std.proofs.lemmas.Bool.{true≢false, false_from_ne_true}
use Rattle.memchr.specs.Find.{IsFirstByte, is_byte}
use Rattle.ascii.specs.Blanks.{is_blank}
use Rattle.ascii.specs.Pieces.{is_filled, pieces}
use Rattle.lines.specs.Blanks.{starts_with}
use Rattle.lines.specs.Marks.{mark_after, mark_of, is_flag, after_flags, marks_among, has_heredocs, marks_in, marks_of}
use Rattle.lines.specs.declared.line.Mark.{Mark}

abbrev IsPlain : List ℕ → Type 0
IsPlain [] = Unit {0}
IsPlain (c ∷ cs) = ((c == 60) ≡ false) × IsPlain cs

abbrev ArePlain : List (List ℕ) → Type 0
ArePlain [] = Unit {0}
ArePlain (text ∷ texts) = IsPlain text × ArePlain texts

-- the pieces of such a text are such texts

onto_plain : (c : ℕ) (texts : List (List ℕ)) → (c == 60) ≡ false → ArePlain texts → ArePlain (onto_first c texts)
onto_plain c [] e h = ((e, tt), tt)
onto_plain c (text ∷ texts) e h = ((e, h.0), h.1)

split_by : (c : ℕ) (cs : List ℕ) (b : Bool) → (c == 60) ≡ false → ArePlain (slice_split is_blank cs)
    → ArePlain (cond b ([] ∷ slice_split is_blank cs) (onto_first c (slice_split is_blank cs)))
split_by c cs true e h = (tt, h)
split_by c cs false e h = onto_plain c (slice_split is_blank cs) e h

split_plain : (text : List ℕ) → IsPlain text → ArePlain (slice_split is_blank text)
split_plain [] h = (tt, tt)
split_plain (c ∷ cs) h = split_by c cs (is_blank c) h.0 (split_plain cs h.1)

filled_plain : (texts : List (List ℕ)) → ArePlain texts → ArePlain (filter is_filled texts)
filled_plain [] h = tt
filled_plain ([] ∷ texts) h = filled_plain texts h.1
filled_plain ((c ∷ cs) ∷ texts) h = (h.0, filled_plain texts h.1)

-- and none of them is a mark

no_mark : (piece : List ℕ) → IsPlain piece → mark_of piece ≡ None
no_mark [] h = refl
no_mark (c ∷ []) h = refl
no_mark (c ∷ d ∷ rest) h = ap (λ b. mark_after (if b && (d == 60) then Some rest else None)) h.0

no_marks : (texts : List (List ℕ)) → ArePlain texts → filter_map mark_of texts ≡ []
no_marks [] h = refl
no_marks (piece ∷ texts) h = ap (λ (o : Option Mark). cons_option o (filter_map mark_of texts)) (no_mark piece h.0) ∙ no_marks texts h.1

flags_by : (piece : List ℕ) (texts : List (List ℕ)) (b : Bool) → ArePlain (piece ∷ texts) → ArePlain (after_flags texts) → ArePlain (if b then after_flags texts else piece ∷ texts)
flags_by piece texts true h i = i
flags_by piece texts false h i = h

flags_plain : (texts : List (List ℕ)) → ArePlain texts → ArePlain (after_flags texts)
flags_plain [] h = tt
flags_plain (piece ∷ texts) h = flags_by piece texts (is_flag piece) h (flags_plain texts h.1)

none_if : (texts : List Mark) (b : Bool) → texts ≡ [] → (if b then [] else texts) ≡ []
none_if texts true e = refl
none_if texts false e = e

none_unless : (texts : List Mark) (b : Bool) → texts ≡ [] → (if b then texts else []) ≡ []
none_unless texts true e = e
none_unless texts false e = refl

none_among : (texts : List (List ℕ)) → ArePlain texts → marks_among texts ≡ []
none_among [] h = refl
none_among (piece ∷ texts) h = none_if (filter_map mark_of (piece ∷ texts)) (starts_with 91 piece) (no_marks (piece ∷ texts) h)

none_in : (texts : List (List ℕ)) → ArePlain texts → marks_in texts ≡ []
none_in [] h = refl
none_in (name ∷ rest) h = none_unless (marks_among (after_flags rest)) (has_heredocs name) (none_among (after_flags rest) (flags_plain rest h.1))

-- what a search for the byte says

plain_by : (text : List ℕ) → ((k : ℕ) → k < length text → ¬ (is_byte 60 (slice_index text k) ≡ true)) → IsPlain text
plain_by [] h = tt
plain_by (c ∷ cs) h = (false_from_ne_true (c == 60) (h 0 (omega arith)), plain_by cs (λ k l. h (suc k) (omega arith)))

pub none_marked : (text : List ℕ) (found : Option ℕ) → IsFirstByte (is_byte 60) text found → is_some found ≡ false → marks_of text ≡ []
none_marked text None h e = none_in (pieces text) (filled_plain (slice_split is_blank text) (split_plain text (plain_by text (λ k l. h k (omega arith) l))))
none_marked text (Some k) h e = absurd (true≢false e)
