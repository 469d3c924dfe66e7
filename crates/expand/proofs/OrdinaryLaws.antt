-- Laws of texts of ordinary characters alone: such a text is the word of its own bytes, and has itself as its value.
use Rattle.std.specs.Prelude.{◌≡◌, ◌≤◌, ◌<◌, ℕ, ◌==◌, ◌||◌, not, nat_lt, Bool, true, false, List, [], ◌∷◌, ◌++◌, if◌then◌else◌, Option, Some, None, map, refl}
use Rattle.std.specs.Str.{IsUtf8, chars}
use Rattle.std.proofs.Common.{sym, ◌∙◌, ap, ap₂, subst, arith}
use Rattle.std.proofs.lemmas.Bool.{true≢false}
use Rattle.std.proofs.lemmas.Bool.Decides.{nat_tests}
use Rattle.std.proofs.lemmas.Str.{encode_ascii, encodes-chars}
use lib.Utf8.{encode, encodes}
use Rattle.ascii.specs.Blanks.{is_blank}
use Rattle.lines.specs.Escape.{byte_of}
use Rattle.lines.specs.declared.escape.Escape.{Escape}
use Rattle.lines.specs.declared.escape.Escape.TheVariants.{Backslash, Backtick}
use Rattle.words.specs.declared.class.Class.{Class}
use Rattle.words.specs.declared.class.Class.TheVariants.{Blank, SingleQuote, DoubleQuote, Dollar, Equals, EscapeCharacter, Other}
use Rattle.words.specs.Class.{class_of}
use Rattle.words.specs.Parts.{Held, kept, Part, blank, plain, held_text, part_text, IsPlain, written as parts_text, Stands as PartStands, AllStand}
use Rattle.words.specs.Cutting.{is_bare, has_open}
use Rattle.expand.specs.Value.{Parts, no_part, byte, with_text, value, refusal}
use Rattle.expand.specs.Scan.{marked_held, marked_part, marked, is_freed, AreFreed, IsScanned, IsScannedBare, IsScannedQuoted}
use Rattle.expand.specs.Syntax.{Syntax, ended, standing, active, written, Stands, parts_of}
use Rattle.expand.specs.Word.{IsWord, is_ordinary, AreOrdinary}
use Rattle.expand.proofs.ValueLaws.{value-text, refusal-text}
use Rattle.expand.proofs.WordLaws.{word-only}
use Rattle.expand.specs.declared.character.Character.{Character}
use Rattle.expand.specs.declared.character.Character.TheVariants.{Active}
use Rattle.expand.specs.declared.kind.Kind.{Kind}
use Rattle.expand.specs.declared.kind.Kind.TheVariants.{Quoted, Unquoted}

-- what ordinary characters are not

eqb_equal : (a b : ℕ) → (a == b) ≡ true → a ≡ b
eqb_equal a b h = grind (arith, nat_tests)

eqb_same : (a b : ℕ) → a ≡ b → (a == b) ≡ true
eqb_same a b h = grind (arith, nat_tests)

neither : (t u : Bool) → not (t || u) ≡ true → (t ≡ false) × (u ≡ false)
neither true u h = absurd (true≢false (sym h))
neither false true h = absurd (true≢false (sym h))
neither false false h = (refl, refl)

not_true : (t : Bool) → not t ≡ true → t ≡ false
not_true true h = absurd (true≢false (sym h))
not_true false h = refl

-- it is neither a `$` nor the escape character
unfreed : (kind : Kind) (e : Escape) (c : ℕ) → is_ordinary kind e c ≡ true → is_freed e c ≡ false
unfreed Quoted e c h = (neither (is_freed e c) ((c == 39) || (c == 34)) h).0
unfreed Unquoted e c h = not_true (is_freed e c) h

no_escape : (kind : Kind) (e : Escape) (c : ℕ) → is_ordinary kind e c ≡ true → (c == byte_of e) ≡ false
no_escape kind e c h = (neither (c == 36) (c == byte_of e) (ap not (unfreed kind e c h))).1

no_dollar : (kind : Kind) (e : Escape) (c : ℕ) → is_ordinary kind e c ≡ true → (c == 36) ≡ false
no_dollar kind e c h = (neither (c == 36) (c == byte_of e) (ap not (unfreed kind e c h))).0

-- a text of ordinary bytes has ordinary characters

beyond_ascii : (kind : Kind) (e : Escape) (c : ℕ) → 128 ≤ c → is_ordinary kind e c ≡ true
beyond_ascii Quoted Backslash c h = grind (arith, nat_tests)
beyond_ascii Quoted Backtick c h = grind (arith, nat_tests)
beyond_ascii Unquoted Backslash c h = grind (arith, nat_tests)
beyond_ascii Unquoted Backtick c h = grind (arith, nat_tests)

ordinary-behind : (kind : Kind) (e : Escape) (xs ys : List ℕ) → AreOrdinary kind e (xs ++ ys) → AreOrdinary kind e ys
ordinary-behind kind e [] ys h = h
ordinary-behind kind e (x ∷ xs) ys h = ordinary-behind kind e xs ys h.1

is_below : (a b : ℕ) → nat_lt a b ≡ true → a < b
is_below a b h = grind (arith, nat_tests)

isnt_below : (a b : ℕ) → nat_lt a b ≡ false → b ≤ a
isnt_below a b h = grind (arith, nat_tests)

ordinary-encode : (kind : Kind) (e : Escape) (c : ℕ) (rest : List ℕ) (t : Bool) → nat_lt c 128 ≡ t → AreOrdinary kind e (encode c ++ rest) → is_ordinary kind e c ≡ true
ordinary-encode kind e c rest true h i = (subst (λ (cs : List ℕ). AreOrdinary kind e (cs ++ rest)) (encode_ascii c (is_below c 128 h)) i).0
ordinary-encode kind e c rest false h i = beyond_ascii kind e c (isnt_below c 128 h)

ordinary-encodes : (kind : Kind) (e : Escape) (cs : List ℕ) → AreOrdinary kind e (encodes cs) → AreOrdinary kind e cs
ordinary-encodes kind e [] h = tt
ordinary-encodes kind e (c ∷ cs) h =
    (ordinary-encode kind e c (encodes cs) (nat_lt c 128) refl h, ordinary-encodes kind e cs (ordinary-behind kind e (encode c) (encodes cs) h))

-- each of them is scanned as an active character

-- of a text with quotes it is a blank or a plain part

abbrev part_at : Class → ℕ → Part
part_at Blank c = blank c
part_at _ c = plain c

abbrev parts_at : Escape → List ℕ → List Part
parts_at e cs = map (λ c. part_at (class_of e c) c) cs

bare_by : (b s d m q x : Bool) → s ≡ false → d ≡ false → x ≡ false
    → is_bare (if b then Blank else (if s then SingleQuote else (if d then DoubleQuote else (if m then Dollar else (if q then Equals else (if x then EscapeCharacter else Other)))))) ≡ true
bare_by true s d m q x hs hd hx = refl
bare_by false true d m q x hs hd hx = absurd (true≢false hs)
bare_by false false true m q x hs hd hx = absurd (true≢false hd)
bare_by false false false true q x hs hd hx = refl
bare_by false false false false true x hs hd hx = refl
bare_by false false false false false true hs hd hx = absurd (true≢false hx)
bare_by false false false false false false hs hd hx = refl

ordinary_bare : (e : Escape) (c : ℕ) → is_ordinary Quoted e c ≡ true → is_bare (class_of e c) ≡ true
unfolding class_of
ordinary_bare e c h =
    let quotes = neither (c == 39) (c == 34) (ap not (neither (is_freed e c) ((c == 39) || (c == 34)) h).1) in
    bare_by (is_blank c) (c == 39) (c == 34) (c == 36) (c == 61) (c == byte_of e) quotes.0 quotes.1 (no_escape Quoted e c h)

plain_stands : (e : Escape) (c : ℕ) (ps : List Part) (k : Class) → class_of e c ≡ k → IsPlain k ps → IsPlain (class_of e c) ps
plain_stands e c ps k h i = subst (λ (j : Class). IsPlain j ps) (sym h) i

part_stands : (e : Escape) (c : ℕ) (ps : List Part) (k : Class) → class_of e c ≡ k → is_bare k ≡ true → PartStands e (part_at k c) ps
part_stands e c ps Blank h i = h
part_stands e c ps Dollar h i = plain_stands e c ps Dollar h tt
part_stands e c ps Equals h i = plain_stands e c ps Equals h tt
part_stands e c ps Other h i = plain_stands e c ps Other h tt
part_stands e c ps _ h i = absurd (true≢false (sym i))

parts_stand : (e : Escape) (cs : List ℕ) → AreOrdinary Quoted e cs → AllStand e (parts_at e cs)
parts_stand e [] h = tt
parts_stand e (c ∷ cs) h = (part_stands e c (parts_at e cs) (class_of e c) refl (ordinary_bare e c h.0), parts_stand e cs h.1)

part_is : (e : Escape) (c : ℕ) (k : Class) → (part_text e (part_at k c) ≡ c ∷ []) × (marked_part (part_at k c) ≡ Active c ∷ [])
part_is e c Blank = (refl, refl)
part_is e c _ = (refl, refl)

parts-text : (e : Escape) (cs : List ℕ) → cs ≡ parts_text e (parts_at e cs)
parts-text e [] = refl
parts-text e (c ∷ cs) = ap₂ (λ (xs ys : List ℕ). xs ++ ys) (sym (part_is e c (class_of e c)).0) (parts-text e cs)

parts-marked : (e : Escape) (cs : List ℕ) → active cs ≡ marked (parts_at e cs)
parts-marked e [] = refl
parts-marked e (c ∷ cs) = ap₂ (λ (xs ys : List Character). xs ++ ys) (sym (part_is e c (class_of e c)).1) (parts-marked e cs)

closed_by : (k : Class) (c : ℕ) (ps : List Part) → has_open (part_at k c ∷ ps) ≡ has_open ps
closed_by Blank c ps = refl
closed_by _ c ps = refl

parts-closed : (e : Escape) (cs : List ℕ) → has_open (parts_at e cs) ≡ false
parts-closed e [] = refl
parts-closed e (c ∷ cs) = closed_by (class_of e c) c (parts_at e cs) ∙ parts-closed e cs

ordinary_quoted : (e : Escape) (cs : List ℕ) → AreOrdinary Quoted e cs → IsScannedQuoted e cs (active cs)
ordinary_quoted e cs h = (parts_at e cs, (parts_stand e cs h, parts-text e cs), parts-closed e cs, parts-marked e cs)

-- of a text without quotes it is kept

abbrev kept_all : List ℕ → List Held
kept_all cs = map (λ c. kept c) cs

kept-freed : (kind : Kind) (e : Escape) (cs : List ℕ) → AreOrdinary kind e cs → AreFreed e (kept_all cs)
kept-freed kind e [] h = tt
kept-freed kind e (c ∷ cs) h = (λ i. absurd (true≢false (sym (eqb_same c (byte_of e) i) ∙ no_escape kind e c h.0)), kept-freed kind e cs h.1)

kept-text : (e : Escape) (cs : List ℕ) → cs ≡ held_text e (kept_all cs)
kept-text e [] = refl
kept-text e (c ∷ cs) = ap (λ ds. c ∷ ds) (kept-text e cs)

kept-marked : (cs : List ℕ) → active cs ≡ map marked_held (kept_all cs)
kept-marked [] = refl
kept-marked (c ∷ cs) = ap (λ (ds : List Character). Active c ∷ ds) (kept-marked cs)

ordinary_bare_text : (kind : Kind) (e : Escape) (cs : List ℕ) → AreOrdinary kind e cs → IsScannedBare e cs (active cs)
ordinary_bare_text kind e cs h = (kept_all cs, kept-freed kind e cs h, kept-text e cs, kept-marked cs)

ordinary-scanned : (kind : Kind) (e : Escape) (cs : List ℕ) → AreOrdinary kind e cs → IsScanned kind e cs (active cs)
ordinary-scanned Quoted e cs h = ordinary_quoted e cs h
ordinary-scanned Unquoted e cs h = ordinary_bare_text Unquoted e cs h

-- and read as a character that stands for itself

abbrev standing_all : List ℕ → Syntax
standing_all [] = ended
standing_all (c ∷ cs) = standing (Active c) (standing_all cs)

standing-stands : (kind : Kind) (e : Escape) (cs : List ℕ) → AreOrdinary kind e cs → Stands 0 (standing_all cs)
standing-stands kind e [] h = tt
standing-stands kind e (c ∷ cs) h = ((λ i. absurd (true≢false (sym (eqb_same c 36 i) ∙ no_dollar kind e c h.0)), λ i. refl), standing-stands kind e cs h.1)

standing-written : (cs : List ℕ) → active cs ≡ written (standing_all cs)
standing-written [] = refl
standing-written (c ∷ cs) = ap (λ (ds : List Character). Active c ∷ ds) (standing-written cs)

with_text-append : (xs ys : List ℕ) (w : Parts) → with_text xs (with_text ys w) ≡ with_text (xs ++ ys) w
with_text-append [] ys w = refl
with_text-append (x ∷ xs) ys w = ap (λ (u : Parts). byte x u) (with_text-append xs ys w)

standing-parts : (cs : List ℕ) → with_text (encodes cs) no_part ≡ parts_of (standing_all cs)
standing-parts [] = refl
standing-parts (c ∷ cs) = sym (with_text-append (encode c) (encodes cs) no_part) ∙ ap (λ (w : Parts). with_text (encode c) w) (standing-parts cs)

pub ordinary-word : (kind : Kind) (e : Escape) (text : List ℕ) → IsUtf8 text → AreOrdinary kind e text → IsWord kind e text (with_text text no_part)
ordinary-word kind e text u h =
    let same : encodes (chars text) ≡ text = encodes-chars text u in
    let characters : AreOrdinary kind e (chars text) = ordinary-encodes kind e (chars text) (subst (λ (t : List ℕ). AreOrdinary kind e t) (sym same) h) in (
      active (chars text),
      ordinary-scanned kind e (chars text) characters,
      (
        standing_all (chars text),
        standing-stands kind e (chars text) characters,
        standing-written (chars text),
        ap (λ (t : List ℕ). with_text t no_part) (sym same) ∙ standing-parts (chars text),
      ),
    )

same_word : (w u : Parts) → Some w ≡ Some u → w ≡ u
same_word w u h = cc

pub ordinary-value : (kind : Kind) (e : Escape) (text : List ℕ) → IsUtf8 text → AreOrdinary kind e text
    → (found : Parts) → IsWord kind e text found → (s : List ℕ → Option (List ℕ)) → value s found ≡ text
ordinary-value kind e text u h found i s =
    ap (value s) (same_word found (with_text text no_part) (sym (word-only kind e text found i) ∙ word-only kind e text (with_text text no_part) (ordinary-word kind e text u h)))
    ∙ value-text s text

pub ordinary-refusal : (kind : Kind) (e : Escape) (text : List ℕ) → IsUtf8 text → AreOrdinary kind e text
    → (found : Parts) → IsWord kind e text found → (s : List ℕ → Option (List ℕ)) → refusal s found ≡ None
ordinary-refusal kind e text u h found i s =
    ap (refusal s) (same_word found (with_text text no_part) (sym (word-only kind e text found i) ∙ word-only kind e text (with_text text no_part) (ordinary-word kind e text u h)))
    ∙ refusal-text s text
