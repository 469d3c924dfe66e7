-- A word cut at its first `=` outside quotes, character by character, is cut as its parts say.
use Rattle.std.proofs.Common.{◌≡◌, ℕ, ◌+◌, ◌<◌, Bool, true, false, List, [], ◌∷◌, ◌++◌, length, take, drop, get_or, Option, Some, None, refl, ap, ap₂, ◌∙◌, sym, append_assoc, true≢false, arith}
use Rattle.std.specs.Prelude.{if◌then◌else◌, ◌==◌, option_map}
use Rattle.std.proofs.lemmas.List.{take_more, at_drop_more}
use Rattle.lines.specs.declared.escape.Escape.{Escape}
use Rattle.lines.specs.declared.escape.Escape.TheVariants.{Backslash, Backtick}
use Rattle.words.specs.declared.class.Class.{Class}
use Rattle.words.specs.declared.class.Class.TheVariants.{Blank, SingleQuote, DoubleQuote, Dollar, Equals, Other}
use Rattle.words.specs.declared.quote.QuoteState.{QuoteState}
use Rattle.words.specs.declared.quote.QuoteState.TheVariants.{Outside}
use Rattle.words.specs.Class.{class_of}
use Rattle.words.specs.Parts.{Part, part_text, written}
use Rattle.words.specs.ReadParts.{Begun, nothing, escaping, in_single, in_double, in_double_escaping, ended_by, begun_by, ended_at_end, parts_from, parts}
use Rattle.words.proofs.PartLaws.{Means, means, means_at, begun_text, begun_more, written-parts_from}
use Rattle.words.specs.Quote.{state_after}
use Rattle.words.specs.PrivateQuote.{splits}
use Rattle.words.specs.Pairs.{is_equals, cut_parts, label_pair}
use Rattle.words.proofs.QuoteLaws.{state_of, state_more}

-- a word cut, of which `front` was read
abbrev pub label_from : Escape → QuoteState → List ℕ → List ℕ → Option (List ℕ × List ℕ)
label_from e p front [] = None
label_from e p front (c ∷ cs) = if splits p (class_of e c) then Some (front, cs) else label_from e (state_after p (class_of e c)) (front ++ c ∷ []) cs

-- a cut behind what stands before
abbrev behind : List ℕ → Option (List ℕ × List ℕ) → Option (List ℕ × List ℕ)
behind front cut = option_map (λ (c : List ℕ × List ℕ). (front ++ c.0, c.1)) cut

behind-behind : (front text : List ℕ) (cut : Option (List ℕ × List ℕ)) → behind (front ++ text) cut ≡ behind front (behind text cut)
behind-behind front text None = refl
behind-behind front text (Some c) = ap (λ t. Some (t, c.1)) (append_assoc front text c.0)

behind-nil : (cut : Option (List ℕ × List ℕ)) → behind [] cut ≡ cut
behind-nil None = refl
behind-nil (Some c) = refl

-- parts among which no `=` splits
abbrev AreUncut : List Part → Type 0
AreUncut [] = Unit {0}
AreUncut (p ∷ ps) = (is_equals p ≡ false) × AreUncut ps

cut_parts-past : (e : Escape) (p : Part) (ps : List Part) → is_equals p ≡ false → cut_parts e (p ∷ ps) ≡ behind (part_text e p) (cut_parts e ps)
cut_parts-past e p ps h = rw h refl

cut_parts-uncut : (e : Escape) (ps rest : List Part) → AreUncut ps → cut_parts e (ps ++ rest) ≡ behind (written e ps) (cut_parts e rest)
cut_parts-uncut e [] rest h = sym (behind-nil (cut_parts e rest))
cut_parts-uncut e (p ∷ ps) rest h =
    cut_parts-past e p (ps ++ rest) h.0 ∙ ap (behind (part_text e p)) (cut_parts-uncut e ps rest h.1) ∙ sym (behind-behind (part_text e p) (written e ps) (cut_parts e rest))

is_dollar : (c : ℕ) → c ≡ 36 → (c == 61) ≡ false
is_dollar c h = ap (λ x. x == 61) h

uncut_more : (e : Escape) (b : Begun) (k : Class) (c : ℕ) → Means e k c → splits (state_of b) k ≡ false → AreUncut (ended_by b k c)
uncut_more e nothing Blank c m h = (refl, tt)
uncut_more e nothing Dollar c m h = (is_dollar c m, tt)
uncut_more e nothing Equals c m h = absurd (true≢false h)
uncut_more e nothing Other c m h = (m, tt)
uncut_more e nothing _ c m h = tt
uncut_more e escaping k c m h = (refl, tt)
uncut_more e (in_single ds) SingleQuote c m h = (refl, tt)
uncut_more e (in_single ds) _ c m h = tt
uncut_more e (in_double hs) DoubleQuote c m h = (refl, tt)
uncut_more e (in_double hs) _ c m h = tt
uncut_more e (in_double_escaping hs) k c m h = tt

uncut_at_end : (e : Escape) (b : Begun) → AreUncut (ended_at_end e b)
uncut_at_end e nothing = tt
uncut_at_end Backslash escaping = (refl, tt)
uncut_at_end Backtick escaping = (refl, tt)
uncut_at_end e (in_single cs) = (refl, tt)
uncut_at_end e (in_double hs) = (refl, tt)
uncut_at_end e (in_double_escaping hs) = (refl, tt)

none_behind : (e : Escape) (front : List ℕ) (ps : List Part) → AreUncut ps → None ≡ behind front (cut_parts e ps)
none_behind e front [] h = refl
none_behind e front (p ∷ ps) h = none_behind e (front ++ part_text e p) ps h.1 ∙ behind-behind front (part_text e p) (cut_parts e ps) ∙ ap (behind front) (sym (cut_parts-past e p ps h.0))

-- one more character, by whether it splits
abbrev LabelsTo : Escape → Bool → List ℕ → Begun → Class → ℕ → List ℕ → Type 0
LabelsTo e t front b k c cs =
    (if t then Some (front ++ begun_text e b, cs) else label_from e (state_after (state_of b) k) ((front ++ begun_text e b) ++ c ∷ []) cs)
    ≡ behind front (cut_parts e (ended_by b k c ++ parts_from e (begun_by e b k c) cs))

splits_at : (e : Escape) (front : List ℕ) (c : ℕ) (cs : List ℕ) (t : Bool) → (c == 61) ≡ t → t ≡ true → Some (front ++ [], cs) ≡ behind front (if t then Some ([], written e (parts_from e nothing cs)) else behind (c ∷ []) (cut_parts e (parts_from e nothing cs)))
splits_at e front c cs true h i = ap (λ t. Some (front ++ [], t)) (sym (written-parts_from e nothing cs))
splits_at e front c cs false h i = absurd (true≢false (sym i))

equals_at : (c : ℕ) → c ≡ 61 → (c == 61) ≡ true
equals_at c h = ap (λ x. x == 61) h

label_splits : (e : Escape) (front : List ℕ) (b : Begun) (k : Class) (c : ℕ) (cs : List ℕ) → Means e k c → splits (state_of b) k ≡ true → LabelsTo e true front b k c cs
label_splits e front nothing Equals c cs m h = splits_at e front c cs (c == 61) refl (equals_at c m)
label_splits e front _ _ c cs m h = absurd (true≢false (sym h))

label_goes_on : (e : Escape) (front : List ℕ) (b : Begun) (k : Class) (c : ℕ) (cs : List ℕ) → Means e k c → splits (state_of b) k ≡ false
    → label_from e (state_of (begun_by e b k c)) ((front ++ written e (ended_by b k c)) ++ begun_text e (begun_by e b k c)) cs ≡ behind (front ++ written e (ended_by b k c)) (cut_parts e (parts_from e (begun_by e b k c) cs))
    → LabelsTo e false front b k c cs
label_goes_on e front b k c cs m h i =
    ap₂ (λ (p : QuoteState) t. label_from e p t cs) (state_more e b k c)
    (append_assoc front (begun_text e b) (c ∷ []) ∙ ap (λ t. front ++ t) (begun_more e b k c m) ∙ sym (append_assoc front (written e (ended_by b k c)) (begun_text e (begun_by e b k c))))
    ∙ i ∙ behind-behind front (written e (ended_by b k c)) (cut_parts e (parts_from e (begun_by e b k c) cs))
    ∙ ap (behind front) (sym (cut_parts-uncut e (ended_by b k c) (parts_from e (begun_by e b k c) cs) (uncut_more e b k c m h)))

by_split : (e : Escape) (front : List ℕ) (b : Begun) (k : Class) (c : ℕ) (cs : List ℕ) (t : Bool) → splits (state_of b) k ≡ t → Means e k c
    → label_from e (state_of (begun_by e b k c)) ((front ++ written e (ended_by b k c)) ++ begun_text e (begun_by e b k c)) cs ≡ behind (front ++ written e (ended_by b k c)) (cut_parts e (parts_from e (begun_by e b k c) cs))
    → LabelsTo e t front b k c cs
by_split e front b k c cs true h m i = label_splits e front b k c cs m h
by_split e front b k c cs false h m i = label_goes_on e front b k c cs m h i

label_from-parts : (e : Escape) (front : List ℕ) (b : Begun) (text : List ℕ) → label_from e (state_of b) (front ++ begun_text e b) text ≡ behind front (cut_parts e (parts_from e b text))
label_from-parts e front b [] = none_behind e front (ended_at_end e b) (uncut_at_end e b)
label_from-parts e front b (c ∷ cs) =
    let k = class_of e c in
    by_split e front b k c cs (splits (state_of b) k) refl (means e c) (label_from-parts e (front ++ written e (ended_by b k c)) (begun_by e b k c) cs)

pub label_from-is : (e : Escape) (word : List ℕ) → label_from e Outside [] word ≡ label_pair e word
unfolding parts label_pair
label_from-is e word = label_from-parts e [] nothing word ∙ behind-nil (cut_parts e (parts_from e nothing word))

-- one more character of a word

label_from-cons_split : (e : Escape) (p : QuoteState) (front : List ℕ) (c : ℕ) (cs : List ℕ) → splits p (class_of e c) ≡ true → label_from e p front (c ∷ cs) ≡ Some (front, cs)
label_from-cons_split e p front c cs h = rw h refl

label_from-cons_more : (e : Escape) (p : QuoteState) (front : List ℕ) (c : ℕ) (cs : List ℕ) → splits p (class_of e c) ≡ false → label_from e p front (c ∷ cs) ≡ label_from e (state_after p (class_of e c)) (front ++ c ∷ []) cs
label_from-cons_more e p front c cs h = rw h refl

pub label_from-split : (e : Escape) (p : QuoteState) (k : Class) (word : List ℕ) (i : ℕ) → k ≡ class_of e (get_or word i 0) → splits p k ≡ true → i < length word
    → label_from e p (take i word) (drop i word) ≡ Some (take i word, drop (i + 1) word)
label_from-split e p k word i is h l =
    at_drop_more (label_from e p (take i word)) word i 0 l ∙ label_from-cons_split e p (take i word) (get_or word i 0) (drop (i + 1) word) (ap (splits p) (sym is) ∙ h)

pub label_from-more : (e : Escape) (p q : QuoteState) (k : Class) (word : List ℕ) (i : ℕ) → k ≡ class_of e (get_or word i 0) → splits p k ≡ false → q ≡ state_after p k → i < length word
    → label_from e q (take (i + 1) word) (drop (i + 1) word) ≡ label_from e p (take i word) (drop i word)
label_from-more e p q k word i is h to l =
    ap₂ (λ (r : QuoteState) t. label_from e r t (drop (i + 1) word)) (to ∙ ap (state_after p) is) (take_more word i 0 l)
    ∙ sym (at_drop_more (label_from e p (take i word)) word i 0 l ∙ label_from-cons_more e p (take i word) (get_or word i 0) (drop (i + 1) word) (ap (splits p) (sym is) ∙ h))

-- a character that splits is an `=`
split_by : (p : QuoteState) (k : Class) → splits p k ≡ true → k ≡ Equals
split_by Outside Equals h = refl
split_by _ _ h = absurd (true≢false (sym h))

ascii_equals : (c : ℕ) → c ≡ 61 → c < 128
ascii_equals c h = omega arith

pub split_is_ascii : (e : Escape) (p : QuoteState) (k : Class) (c : ℕ) → k ≡ class_of e c → splits p k ≡ true → c < 128
split_is_ascii e p k c is h = ascii_equals c (means_at e c Equals (sym is ∙ split_by p k h))
