-- What going through a text character by character finds, and that it is what the text's parts say.
use Rattle.std.proofs.Common.{◌≡◌, ℕ, ◌+◌, ◌-◌, ◌<◌, ◌≤◌, Bool, true, false, List, [], ◌∷◌, ◌++◌, length, take, drop, get_or, refl, ap, ap₂, ◌∙◌, sym, append_assoc, append-nil, true≢false, arith}
use Rattle.std.specs.Prelude.{if◌then◌else◌}
use Rattle.std.proofs.lemmas.List.{take_more, at_drop_more, drop-take, drop-append-le, drop_all, length-take-le}
use Rattle.std.proofs.lemmas.Bool.Decides.{nat_tests}
use Rattle.ascii.specs.Blanks.{is_blank}
use Rattle.ascii.specs.Pieces.{if_any}
use Rattle.lines.specs.Escape.{byte_of}
use Rattle.lines.specs.declared.escape.Escape.{Escape}
use Rattle.words.specs.declared.class.Class.{Class}
use Rattle.words.specs.declared.class.Class.TheVariants.{Blank}
use Rattle.words.specs.declared.quote.QuoteState.{QuoteState}
use Rattle.words.specs.declared.quote.QuoteState.TheVariants.{Outside}
use Rattle.words.specs.Class.{class_of}
use Rattle.words.specs.Parts.{kept, Part, blank, part_text, written}
use Rattle.words.specs.Cutting.{words_among, words}
use Rattle.words.specs.ReadParts.{Begun, nothing, escaping, in_single, in_double, in_double_escaping, ended_by, begun_by, ended_at_end, parts_from, parts}
use Rattle.words.proofs.PartLaws.{Means, means, means_at, held_text-append, begun_text, begun_more}
use Rattle.words.specs.Quote.{state_after}
use Rattle.words.specs.PrivateQuote.{cuts}
use Rattle.words.proofs.QuoteLaws.{state_of, state_more}

-- the words of a text of which `word` was read since the last blank
abbrev pub words_from : Escape → QuoteState → List ℕ → List ℕ → List (List ℕ)
words_from e p word [] = if_any word
words_from e p word (c ∷ cs) = if cuts p (class_of e c) then if_any word ++ words_from e (state_after p (class_of e c)) [] cs
    else words_from e (state_after p (class_of e c)) (word ++ c ∷ []) cs

-- parts that hold no words apart
abbrev AreJoined : List Part → Type 0
AreJoined [] = Unit {0}
AreJoined (blank c ∷ ps) = ⊥
AreJoined (_ ∷ ps) = AreJoined ps

words_among-one : (e : Escape) (word text : List ℕ) (ps : List Part) (rest : List Part) → words_among e ((word ++ text) ++ written e ps) rest ≡ words_among e (word ++ (text ++ written e ps)) rest
words_among-one e word text ps rest = ap (λ t. words_among e t rest) (append_assoc word text (written e ps))

words_among-joined : (e : Escape) (word : List ℕ) (ps rest : List Part) → AreJoined ps → words_among e word (ps ++ rest) ≡ words_among e (word ++ written e ps) rest
words_among-joined e word [] rest h = ap (λ t. words_among e t rest) (sym (append-nil word))
words_among-joined e word (blank c ∷ ps) rest h = absurd h
words_among-joined e word (p ∷ ps) rest h = words_among-joined e (word ++ part_text e p) ps rest h ∙ words_among-one e word (part_text e p) ps rest

joined_more : (e : Escape) (b : Begun) (k : Class) (c : ℕ) → cuts (state_of b) k ≡ false → AreJoined (ended_by b k c)
joined_more e nothing Blank c h = absurd (true≢false h)
joined_more e nothing _ c h = tt
joined_more e escaping k c h = tt
joined_more e (in_single cs) Blank c h = tt
joined_more e (in_single cs) _ c h = tt
joined_more e (in_double hs) Blank c h = tt
joined_more e (in_double hs) _ c h = tt
joined_more e (in_double_escaping hs) k c h = tt

-- one more character, by whether it cuts
abbrev StepsTo : Escape → Bool → List ℕ → Begun → Class → ℕ → List ℕ → Type 0
StepsTo e t word b k c cs =
    (if t then if_any (word ++ begun_text e b) ++ words_from e (state_after (state_of b) k) [] cs else words_from e (state_after (state_of b) k) ((word ++ begun_text e b) ++ c ∷ []) cs)
    ≡ words_among e word (ended_by b k c ++ parts_from e (begun_by e b k c) cs)

step_cuts : (e : Escape) (word : List ℕ) (b : Begun) (k : Class) (c : ℕ) (cs : List ℕ) → cuts (state_of b) k ≡ true
    → words_from e (state_of (begun_by e b k c)) ([] ++ begun_text e (begun_by e b k c)) cs ≡ words_among e [] (parts_from e (begun_by e b k c) cs) → StepsTo e true word b k c cs
step_cuts e word nothing Blank c cs h i = ap₂ (λ t (ws : List (List ℕ)). if_any t ++ ws) (append-nil word) i
step_cuts e word _ _ c cs h i = absurd (true≢false (sym h))

step_joins : (e : Escape) (word : List ℕ) (b : Begun) (k : Class) (c : ℕ) (cs : List ℕ) → Means e k c → cuts (state_of b) k ≡ false
    → words_from e (state_of (begun_by e b k c)) ((word ++ written e (ended_by b k c)) ++ begun_text e (begun_by e b k c)) cs ≡ words_among e (word ++ written e (ended_by b k c)) (parts_from e (begun_by e b k c) cs)
    → StepsTo e false word b k c cs
step_joins e word b k c cs m h i =
    ap₂ (λ (p : QuoteState) t. words_from e p t cs) (state_more e b k c)
    (append_assoc word (begun_text e b) (c ∷ []) ∙ ap (λ t. word ++ t) (begun_more e b k c m) ∙ sym (append_assoc word (written e (ended_by b k c)) (begun_text e (begun_by e b k c))))
    ∙ i ∙ sym (words_among-joined e word (ended_by b k c) (parts_from e (begun_by e b k c) cs) (joined_more e b k c h))

at_end : (e : Escape) (word : List ℕ) (b : Begun) → if_any (word ++ begun_text e b) ≡ words_among e word (ended_at_end e b)
at_end e word nothing = ap if_any (append-nil word)
at_end e word escaping = refl
at_end e word (in_single cs) = refl
at_end e word (in_double hs) = refl
at_end e word (in_double_escaping hs) = ap (λ t. if_any (word ++ 34 ∷ t)) (sym (held_text-append e hs (kept (byte_of e) ∷ [])))

pub words_from-parts : (e : Escape) (word : List ℕ) (b : Begun) (text : List ℕ) → words_from e (state_of b) (word ++ begun_text e b) text ≡ words_among e word (parts_from e b text)
words_from-parts e word b [] = at_end e word b
words_from-parts e word b (c ∷ cs) =
    let k = class_of e c in
    let joins = words_from-parts e (word ++ written e (ended_by b k c)) (begun_by e b k c) cs in
    let begins = words_from-parts e [] (begun_by e b k c) cs in
    by_cut e word b k c cs (cuts (state_of b) k) refl (means e c) begins joins
  where
    by_cut : (e : Escape) (word : List ℕ) (b : Begun) (k : Class) (c : ℕ) (cs : List ℕ) (t : Bool) → cuts (state_of b) k ≡ t → Means e k c
        → words_from e (state_of (begun_by e b k c)) ([] ++ begun_text e (begun_by e b k c)) cs ≡ words_among e [] (parts_from e (begun_by e b k c) cs)
        → words_from e (state_of (begun_by e b k c)) ((word ++ written e (ended_by b k c)) ++ begun_text e (begun_by e b k c)) cs ≡ words_among e (word ++ written e (ended_by b k c)) (parts_from e (begun_by e b k c) cs)
        → StepsTo e t word b k c cs
    by_cut e word b k c cs true h m i j = step_cuts e word b k c cs h i
    by_cut e word b k c cs false h m i j = step_joins e word b k c cs m h j

pub words_from-is : (e : Escape) (text : List ℕ) → words_from e Outside [] text ≡ words e text
unfolding parts words
words_from-is e text = words_from-parts e [] nothing text

-- how going on over one more character changes it

words_from-cons_cut : (e : Escape) (p : QuoteState) (word : List ℕ) (c : ℕ) (cs : List ℕ) → cuts p (class_of e c) ≡ true → words_from e p word (c ∷ cs) ≡ if_any word ++ words_from e (state_after p (class_of e c)) [] cs
words_from-cons_cut e p word c cs h = rw h refl

words_from-cons_more : (e : Escape) (p : QuoteState) (word : List ℕ) (c : ℕ) (cs : List ℕ) → cuts p (class_of e c) ≡ false → words_from e p word (c ∷ cs) ≡ words_from e (state_after p (class_of e c)) (word ++ c ∷ []) cs
words_from-cons_more e p word c cs h = rw h refl

pub words_from-cut : (e : Escape) (p q : QuoteState) (k : Class) (found : List (List ℕ)) (text : List ℕ) (start i : ℕ) → k ≡ class_of e (get_or text i 0) → cuts p k ≡ true → q ≡ state_after p k → start ≤ i → i < length text
    → (found ++ if_any (take (i - start) (drop start text))) ++ words_from e q (drop (i + 1) (take (i + 1) text)) (drop (i + 1) text) ≡ found ++ words_from e p (drop start (take i text)) (drop i text)
words_from-cut e p q k found text start i is h to b l =
    let next : q ≡ state_after p (class_of e (get_or text i 0)) = to ∙ ap (state_after p) is in
    let part : drop start (take i text) ≡ take (i - start) (drop start text) = ap (λ n. drop start (take n text)) (omega arith) ∙ drop-take start (i - start) text in
    let none : drop (i + 1) (take (i + 1) text) ≡ [] = drop_all (i + 1) (take (i + 1) text) (omega (arith, length-take-le (i + 1) text (omega arith))) in
    let step : words_from e p (drop start (take i text)) (drop i text) ≡ if_any (drop start (take i text)) ++ words_from e (state_after p (class_of e (get_or text i 0))) [] (drop (i + 1) text) =
    at_drop_more (words_from e p (drop start (take i text))) text i 0 l ∙ words_from-cons_cut e p (drop start (take i text)) (get_or text i 0) (drop (i + 1) text) (ap (cuts p) (sym is) ∙ h) in
    append_assoc found (if_any (take (i - start) (drop start text))) (words_from e q (drop (i + 1) (take (i + 1) text)) (drop (i + 1) text))
    ∙ ap (λ t. found ++ t) (ap₂ (λ s t. if_any s ++ words_from e q t (drop (i + 1) text)) (sym part) none ∙ ap (λ (r : QuoteState). if_any (drop start (take i text)) ++ words_from e r [] (drop (i + 1) text)) next ∙ sym step)

pub words_from-more : (e : Escape) (p q : QuoteState) (k : Class) (found : List (List ℕ)) (text : List ℕ) (start i : ℕ) → k ≡ class_of e (get_or text i 0) → cuts p k ≡ false → q ≡ state_after p k → start ≤ i → i < length text
    → found ++ words_from e q (drop start (take (i + 1) text)) (drop (i + 1) text) ≡ found ++ words_from e p (drop start (take i text)) (drop i text)
words_from-more e p q k found text start i is h to b l =
    let next : q ≡ state_after p (class_of e (get_or text i 0)) = to ∙ ap (state_after p) is in
    let more : drop start (take (i + 1) text) ≡ drop start (take i text) ++ get_or text i 0 ∷ [] =
    ap (drop start) (take_more text i 0 l) ∙ drop-append-le start (take i text) (get_or text i 0 ∷ []) (omega (arith, length-take-le i text (omega arith))) in
    let step : words_from e p (drop start (take i text)) (drop i text) ≡ words_from e (state_after p (class_of e (get_or text i 0))) (drop start (take i text) ++ get_or text i 0 ∷ []) (drop (i + 1) text) =
    at_drop_more (words_from e p (drop start (take i text))) text i 0 l ∙ words_from-cons_more e p (drop start (take i text)) (get_or text i 0) (drop (i + 1) text) (ap (cuts p) (sym is) ∙ h) in
    ap (λ t. found ++ t) (ap₂ (λ (r : QuoteState) s. words_from e r s (drop (i + 1) text)) next more ∙ sym step)

-- the class of a byte is that of the text's byte
pub at_text : (e : Escape) (bytes text : List ℕ) (i : ℕ) (k : Class) → k ≡ class_of e (get_or bytes i 0) → bytes ≡ text → k ≡ class_of e (get_or text i 0)
at_text e bytes text i k h same = h ∙ ap (λ (t : List ℕ). class_of e (get_or t i 0)) same

-- a character that cuts is ASCII
blank_is_ascii : (c : ℕ) → is_blank c ≡ true → c < 128
blank_is_ascii c h = grind (arith, nat_tests)

cut_by : (p : QuoteState) (k : Class) → cuts p k ≡ true → (p ≡ Outside) × (k ≡ Blank)
cut_by Outside Blank h = (refl, refl)
cut_by _ _ h = absurd (true≢false (sym h))

pub cut_is_ascii : (e : Escape) (p : QuoteState) (k : Class) (c : ℕ) → k ≡ class_of e c → cuts p k ≡ true → c < 128
cut_is_ascii e p k c is h = blank_is_ascii c (means_at e c Blank (sym is ∙ (cut_by p k h).1))
