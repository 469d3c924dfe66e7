-- An ignore file of bytes without `!` has no exception.
use Rattle.std.proofs.Common.{◌≡◌, ◌∙◌, ℕ, zero, suc, Bool, true, false, cond, List, [], ◌∷◌, Option, Some, None, Result, Ok, Err, refl, sym, ap, subst, take, drop, length}
use Rattle.std.specs.Prelude.{◌==◌, ◌-◌, ◌+◌, ◌||◌, slice_index, option_map}
use Rattle.std.specs.List.{list_any, onto_first, slice_split}
use Rattle.std.specs.Str.{is_utf8}
use Rattle.std.specs.Str.Lines.{lines, lines_of_parts, strip_carriage_return}
use Rattle.ascii.specs.Blanks.{after_blanks, before_blanks, is_blank, trimmed, unless_trailing}
use Rattle.globs.specs.Glob.{components_of}
use Rattle.ignorefile.specs.File.{all_say, body_of, exception_of, ignore_of, is_comment, line_of, line_with, lines_from, pattern_of, segments_of, without_byte_order_mark}
use Rattle.ignorefile.specs.declared.line.Line.{Line}
use Rattle.ignorefile.specs.declared.line.Segment.{Segment}
use Rattle.packing.specs.PrivateLeaving.{ExceptNothing}

-- no byte is a `!`
abbrev Lacks : List ℕ → Type 0
Lacks [] = Unit {0}
Lacks (b ∷ bs) = ((b == 33) ≡ false) × Lacks bs

abbrev AllLack : List (List ℕ) → Type 0
AllLack [] = Unit {0}
AllLack (text ∷ texts) = Lacks text × AllLack texts

neither : (a b : Bool) → (a || b) ≡ false → (a ≡ false) × (b ≡ false)
neither true b h = absurd cc
neither false b h = (refl, h)

lacks_any : (bytes : List ℕ) → list_any (λ b. b == 33) bytes ≡ false → Lacks bytes
lacks_any [] h = tt
lacks_any (b ∷ bs) h =
    let parts = neither (b == 33) (list_any (λ c. c == 33) bs) h in
    (parts.0, lacks_any bs parts.1)

lacks_drop : (n : ℕ) (bytes : List ℕ) → Lacks bytes → Lacks (drop n bytes)
lacks_drop zero bytes h = h
lacks_drop (suc n) [] h = tt
lacks_drop (suc n) (b ∷ bs) h = lacks_drop n bs h.1

lacks_take : (n : ℕ) (bytes : List ℕ) → Lacks bytes → Lacks (take n bytes)
lacks_take zero bytes h = tt
lacks_take (suc n) [] h = tt
lacks_take (suc n) (b ∷ bs) h = (h.0, lacks_take n bs h.1)

lacks_either : (b : Bool) (xs ys : List ℕ) → Lacks xs → Lacks ys → Lacks (cond b xs ys)
lacks_either true xs ys h i = h
lacks_either false xs ys h i = i

-- ---- lines

lacks_onto : (b : ℕ) (texts : List (List ℕ)) → (b == 33) ≡ false → AllLack texts → AllLack (onto_first b texts)
lacks_onto b [] none h = ((none, tt), tt)
lacks_onto b (text ∷ texts) none h = ((none, h.0), h.1)

lacks_split : (p : ℕ → Bool) (bytes : List ℕ) → Lacks bytes → AllLack (slice_split p bytes)
lacks_split p [] h = (tt, tt)
lacks_split p (b ∷ bs) h = by (p b) (lacks_split p bs h.1)
  where
    by : (cut : Bool) → AllLack (slice_split p bs) → AllLack (cond cut ([] ∷ slice_split p bs) (onto_first b (slice_split p bs)))
    by true later = (tt, later)
    by false later = lacks_onto b (slice_split p bs) h.0 later

lacks_strip : (text : List ℕ) → Lacks text → Lacks (strip_carriage_return text)
lacks_strip text h = lacks_either (slice_index text (length text - 1) == 13) (take (length text - 1) text) text (lacks_take (length text - 1) text h) h

lacks_parts : (texts : List (List ℕ)) → AllLack texts → AllLack (lines_of_parts texts)
lacks_parts [] h = tt
lacks_parts (text ∷ []) h = by (length text == 0)
  where
    by : (empty : Bool) → AllLack (cond empty [] (text ∷ []))
    by true = tt
    by false = (h.0, tt)
lacks_parts (text ∷ next ∷ texts) h = (lacks_strip text h.0, lacks_parts (next ∷ texts) h.1)

lacks_lines : (bytes : List ℕ) → Lacks bytes → AllLack (lines bytes)
lacks_lines bytes h = lacks_parts (slice_split (λ b. b == 10) bytes) (lacks_split (λ b. b == 10) bytes h)

lacks_mark : (bytes : List ℕ) → Lacks bytes → Lacks (without_byte_order_mark bytes)
lacks_mark bytes h = lacks_either _ (drop 3 bytes) bytes (lacks_drop 3 bytes h) h

-- ---- blanks

lacks_after : (text : List ℕ) → Lacks text → Lacks (after_blanks text)
lacks_after [] h = tt
lacks_after (c ∷ cs) h = lacks_either (is_blank c) (after_blanks cs) (c ∷ cs) (lacks_after cs h.1) h

lacks_trailing : (c : ℕ) (text : List ℕ) → (c == 33) ≡ false → Lacks text → Lacks (unless_trailing c text)
lacks_trailing c [] none h = lacks_either (is_blank c) [] (c ∷ []) tt (none, tt)
lacks_trailing c (d ∷ ds) none h = (none, h)

lacks_before : (text : List ℕ) → Lacks text → Lacks (before_blanks text)
lacks_before [] h = tt
lacks_before (c ∷ cs) h = lacks_trailing c (before_blanks cs) h.0 (lacks_before cs h.1)

lacks_trimmed : (text : List ℕ) → Lacks text → Lacks (trimmed text)
lacks_trimmed text h = lacks_before (after_blanks text) (lacks_after text h)

-- ---- what a line says

both_some : (x y : Line) → Some (Some x) ≡ Some (Some y) → x ≡ y
both_some x y e = cc

plain_pattern : (found : Option (List Segment)) (line : Line) → option_map (λ segments. line_with false segments) found ≡ Some (Some line) → line.exception ≡ false
plain_pattern None line e = absurd cc
plain_pattern (Some []) line e = absurd (differ e)
  where
    differ : Some None ≡ Some (Some line) → ⊥
    differ q = cc
plain_pattern (Some (segment ∷ segments)) line e =
    ap (λ (l : Line). l.exception) (sym (both_some (record { exception = false; segments = segment ∷ segments }) line e))

plain_body : (text : List ℕ) (line : Line) → Lacks text → body_of text ≡ Some (Some line) → line.exception ≡ false
plain_body [] line h e = absurd (differ e)
  where
    differ : Some None ≡ Some (Some line) → ⊥
    differ q = cc
plain_body (b ∷ bs) line h e = by (b == 33) h.0 e
  where
    by : (mark : Bool) → mark ≡ false → cond mark (exception_of (after_blanks bs)) (pattern_of false (b ∷ bs)) ≡ Some (Some line) → line.exception ≡ false
    by true none said = absurd cc
    by false none said = plain_pattern (segments_of (components_of (b ∷ bs))) line said

plain_line : (text : List ℕ) (line : Line) → Lacks text → line_of text ≡ Some (Some line) → line.exception ≡ false
plain_line text line h e = by (is_utf8 text) (is_comment text) e
  where
    by : (utf8 comment : Bool) → cond utf8 (cond comment (Some None) (body_of (trimmed text))) None ≡ Some (Some line) → line.exception ≡ false
    by true true said = absurd (differ said)
      where
        differ : Some None ≡ Some (Some line) → ⊥
        differ q = cc
    by true false said = plain_body (trimmed text) line (lacks_trimmed text h) said
    by false comment said = absurd cc

-- ---- all lines

abbrev ArePlain : List Line → Type 0
ArePlain [] = Unit {0}
ArePlain (line ∷ more) = (line.exception ≡ false) × ArePlain more

abbrev said_of : Result (List Line) ℕ → List Line
said_of (Ok said) = said
said_of (Err number) = []

plain_lines : (number : ℕ) (texts : List (List ℕ)) (said : List Line) → AllLack texts → lines_from number texts ≡ Ok said → ArePlain said
plain_lines number [] said h e = subst ArePlain (ap said_of e) tt
plain_lines number (text ∷ texts) said h e =
    by (line_of text) refl (lines_from (number + 1) texts) (λ (more : List Line) (are : lines_from (number + 1) texts ≡ Ok more). plain_lines (number + 1) texts more h.1 are) e
  where
    by : (one : Option (Option Line)) → line_of text ≡ one → (found : Result (List Line) ℕ) → ((more : List Line) → found ≡ Ok more → ArePlain more)
        → all_say number one found ≡ Ok said → ArePlain said
    by None is found later all = absurd cc
    by (Some None) is (Ok more) later all = subst ArePlain (ap said_of all) (later more refl)
    by (Some (Some line)) is (Ok more) later all = subst ArePlain (ap said_of all) (plain_line text line h.0 is, later more refl)
    by (Some one) is (Err bad) later all = absurd cc

none_except : (said : List Line) → ArePlain said → ExceptNothing said
none_except [] h n line at = absurd cc
none_except (first ∷ more) h zero line at = ap (λ (l : Line). l.exception) (sym (same first line at)) ∙ h.0
  where
    same : (x y : Line) → Some x ≡ Some y → x ≡ y
    same x y e = cc
none_except (first ∷ more) h (suc n) line at = none_except more h.1 n line at

pub no_exception : (bytes : List ℕ) (said : List Line) → ignore_of bytes ≡ Ok said → list_any (λ b. b == 33) bytes ≡ false → ExceptNothing said
no_exception bytes said is none =
    none_except said (plain_lines 1 (lines (without_byte_order_mark bytes)) said (lacks_lines (without_byte_order_mark bytes) (lacks_mark bytes (lacks_any bytes none))) is)
