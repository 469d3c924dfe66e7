-- Laws of parts: each text is made of just one list of them, the one that reading it from the front gives.
use Rattle.std.specs.Prelude.{◌≡◌, ℕ, ◌==◌, Bool, true, false, List, [], ◌∷◌, ◌++◌, if◌then◌else◌, Option, refl}
use Rattle.std.proofs.Common.{sym, ◌∙◌, ap, ap₂, subst, append_assoc, append-nil, arith}
use Rattle.std.proofs.lemmas.Bool.{true≢false}
use Rattle.std.proofs.lemmas.Bool.Decides.{nat_tests}
use Rattle.ascii.specs.Blanks.{is_blank}
use Rattle.ascii.specs.Pieces.{if_any, pieces}
use Rattle.ascii.proofs.PieceLaws.{pieces_from, pieces-read}
use Rattle.lines.specs.Escape.{byte_of}
use Rattle.lines.specs.declared.escape.Escape.{Escape}
use Rattle.lines.specs.declared.escape.Escape.TheVariants.{Backslash, Backtick}
use Rattle.words.specs.declared.class.Class.{Class}
use Rattle.words.specs.declared.class.Class.TheVariants.{Blank, SingleQuote, DoubleQuote, Dollar, Equals, EscapeCharacter, Other}
use Rattle.words.specs.Class.{class_of}
use Rattle.words.specs.Parts.{Held, kept, freed, Part, blank, plain, escaped, single, double, open_single, open_double, held_text, part_text, written, IsPlain, is_single, AreInSingle, acts_before, IsIdleBefore, IsKept, AreInDouble, Stands, AllStand, IsMadeOf}
use Rattle.words.specs.Cutting.{words_among, AreWords, has_open, IsOpen, is_bare, AreUnquoted, words, ends_open}
use Rattle.words.specs.Pairs.{cut_parts, IsLabelCut, label_pair}
use Rattle.words.specs.ReadParts.{Begun, nothing, escaping, in_single, in_double, in_double_escaping, ended_by, begun_by, ended_at_end, parts_from, parts}

-- what a class says of its character
abbrev pub Means : Escape → Class → ℕ → Type 0
Means e Blank c = is_blank c ≡ true
Means e SingleQuote c = c ≡ 39
Means e DoubleQuote c = c ≡ 34
Means e Dollar c = c ≡ 36
Means e Equals c = c ≡ 61
Means e EscapeCharacter c = c ≡ byte_of e
Means e Other c = (c == 61) ≡ false

eqb_equal : (a b : ℕ) → (a == b) ≡ true → a ≡ b
eqb_equal a b h = grind (arith, nat_tests)

means_by : (e : Escape) (c : ℕ) (b s d m q x : Bool) → is_blank c ≡ b → (c == 39) ≡ s → (c == 34) ≡ d → (c == 36) ≡ m → (c == 61) ≡ q → (c == byte_of e) ≡ x
    → Means e (if b then Blank else (if s then SingleQuote else (if d then DoubleQuote else (if m then Dollar else (if q then Equals else (if x then EscapeCharacter else Other)))))) c
means_by e c true s d m q x hb hs hd hm hq hx = hb
means_by e c false true d m q x hb hs hd hm hq hx = eqb_equal c 39 hs
means_by e c false false true m q x hb hs hd hm hq hx = eqb_equal c 34 hd
means_by e c false false false true q x hb hs hd hm hq hx = eqb_equal c 36 hm
means_by e c false false false false true x hb hs hd hm hq hx = eqb_equal c 61 hq
means_by e c false false false false false true hb hs hd hm hq hx = eqb_equal c (byte_of e) hx
means_by e c false false false false false false hb hs hd hm hq hx = hq

pub means : (e : Escape) (c : ℕ) → Means e (class_of e c) c
unfolding class_of
means e c = means_by e c (is_blank c) (c == 39) (c == 34) (c == 36) (c == 61) (c == byte_of e) refl refl refl refl refl refl

pub means_at : (e : Escape) (c : ℕ) (k : Class) → class_of e c ≡ k → Means e k c
means_at e c k h = subst (λ (j : Class). Means e j c) h (means e c)

class_of-single : (e : Escape) → class_of e 39 ≡ SingleQuote
unfolding class_of
class_of-single e = refl

class_of-double : (e : Escape) → class_of e 34 ≡ DoubleQuote
unfolding class_of
class_of-double e = refl

pub class_of-escape : (e : Escape) → class_of e (byte_of e) ≡ EscapeCharacter
unfolding class_of
class_of-escape Backslash = refl
class_of-escape Backtick = refl

-- what is written

pub held_text-append : (e : Escape) (xs ys : List Held) → held_text e (xs ++ ys) ≡ held_text e xs ++ held_text e ys
held_text-append e [] ys = refl
held_text-append e (kept c ∷ xs) ys = ap (λ t. c ∷ t) (held_text-append e xs ys)
held_text-append e (freed c ∷ xs) ys = ap (λ t. byte_of e ∷ c ∷ t) (held_text-append e xs ys)

pub written-append : (e : Escape) (ps qs : List Part) → written e (ps ++ qs) ≡ written e ps ++ written e qs
written-append e [] qs = refl
written-append e (p ∷ ps) qs = ap (λ t. part_text e p ++ t) (written-append e ps qs) ∙ sym (append_assoc (part_text e p) (written e ps) (written e qs))

-- what was begun, as it is written
abbrev pub begun_text : Escape → Begun → List ℕ
begun_text e nothing = []
begun_text e escaping = byte_of e ∷ []
begun_text e (in_single cs) = 39 ∷ cs
begun_text e (in_double hs) = 34 ∷ held_text e hs
begun_text e (in_double_escaping hs) = 34 ∷ (held_text e hs ++ byte_of e ∷ [])

held_more : (e : Escape) (hs : List Held) (h : Held) → 34 ∷ (held_text e hs ++ held_text e (h ∷ [])) ≡ 34 ∷ held_text e (hs ++ h ∷ [])
held_more e hs h = ap (λ t. 34 ∷ t) (sym (held_text-append e hs (h ∷ [])))

held_two : (e : Escape) (hs : List Held) (c : ℕ) → (34 ∷ (held_text e hs ++ byte_of e ∷ [])) ++ c ∷ [] ≡ 34 ∷ held_text e ((hs ++ kept (byte_of e) ∷ []) ++ kept c ∷ [])
held_two e hs c =
    ap (λ t. (34 ∷ t) ++ c ∷ []) (sym (held_text-append e hs (kept (byte_of e) ∷ []))) ∙ held_more e (hs ++ kept (byte_of e) ∷ []) (kept c)

held_freed : (e : Escape) (hs : List Held) (c : ℕ) → (34 ∷ (held_text e hs ++ byte_of e ∷ [])) ++ c ∷ [] ≡ 34 ∷ held_text e (hs ++ freed c ∷ [])
held_freed e hs c = ap (λ t. 34 ∷ t) (append_assoc (held_text e hs) (byte_of e ∷ []) (c ∷ [])) ∙ held_more e hs (freed c)

single_ended : (cs : List ℕ) (c : ℕ) → c ≡ 39 → (39 ∷ cs) ++ c ∷ [] ≡ ((39 ∷ (cs ++ 39 ∷ [])) ++ []) ++ []
single_ended cs c h = ap (λ x. 39 ∷ (cs ++ x ∷ [])) h ∙ sym (append-nil _ ∙ append-nil _)

double_ended : (ts : List ℕ) (c : ℕ) → c ≡ 34 → (34 ∷ ts) ++ c ∷ [] ≡ ((34 ∷ (ts ++ 34 ∷ [])) ++ []) ++ []
double_ended ts c h = ap (λ x. 34 ∷ (ts ++ x ∷ [])) h ∙ sym (append-nil _ ∙ append-nil _)

-- one more character is written once
pub begun_more : (e : Escape) (b : Begun) (k : Class) (c : ℕ) → Means e k c → begun_text e b ++ c ∷ [] ≡ written e (ended_by b k c) ++ begun_text e (begun_by e b k c)
begun_more e nothing SingleQuote c m = ap (λ x. x ∷ []) m
begun_more e nothing DoubleQuote c m = ap (λ x. x ∷ []) m
begun_more e nothing EscapeCharacter c m = ap (λ x. x ∷ []) m
begun_more e nothing _ c m = refl
begun_more e escaping k c m = refl
begun_more e (in_single cs) SingleQuote c m = single_ended cs c m
begun_more e (in_single cs) _ c m = refl
begun_more e (in_double hs) DoubleQuote c m = double_ended (held_text e hs) c m
begun_more e (in_double hs) EscapeCharacter c m = ap (λ x. 34 ∷ (held_text e hs ++ x ∷ [])) m
begun_more e (in_double hs) _ c m = held_more e hs (kept c)
begun_more e (in_double_escaping hs) DoubleQuote c m = held_freed e hs c
begun_more e (in_double_escaping hs) Dollar c m = held_freed e hs c
begun_more e (in_double_escaping hs) EscapeCharacter c m = held_freed e hs c
begun_more e (in_double_escaping hs) _ c m = held_two e hs c

begun_at_end : (e : Escape) (b : Begun) → written e (ended_at_end e b) ≡ begun_text e b ++ []
begun_at_end e nothing = refl
begun_at_end e escaping = refl
begun_at_end e (in_single cs) = refl
begun_at_end e (in_double hs) = refl
begun_at_end e (in_double_escaping hs) = ap (λ t. (34 ∷ t) ++ []) (held_text-append e hs (kept (byte_of e) ∷ []))

-- the parts that are read are written as the text
pub written-parts_from : (e : Escape) (b : Begun) (text : List ℕ) → written e (parts_from e b text) ≡ begun_text e b ++ text
written-parts_from e b [] = begun_at_end e b
written-parts_from e b (c ∷ cs) =
    let k = class_of e c in
    written-append e (ended_by b k c) (parts_from e (begun_by e b k c) cs)
    ∙ ap (λ t. written e (ended_by b k c) ++ t) (written-parts_from e (begun_by e b k c) cs)
    ∙ sym (append_assoc (written e (ended_by b k c)) (begun_text e (begun_by e b k c)) cs)
    ∙ ap (λ t. t ++ cs) (sym (begun_more e b k c (means e c)))
    ∙ append_assoc (begun_text e b) (c ∷ []) cs

-- and they obey the rules

AreInSingle-more : (e : Escape) (cs : List ℕ) (c : ℕ) → is_single (class_of e c) ≡ false → AreInSingle e cs → AreInSingle e (cs ++ c ∷ [])
AreInSingle-more e [] c h i = (h, tt)
AreInSingle-more e (d ∷ ds) c h i = (i.0, AreInSingle-more e ds c h i.1)

AreInDouble-append : (e : Escape) (hs gs : List Held) (behind : List ℕ) → AreInDouble e hs (held_text e gs ++ behind) → AreInDouble e gs behind → AreInDouble e (hs ++ gs) behind
AreInDouble-append e [] gs behind h i = i
AreInDouble-append e (kept c ∷ hs) gs behind h i =
    let same : held_text e hs ++ (held_text e gs ++ behind) ≡ held_text e (hs ++ gs) ++ behind =
    sym (append_assoc (held_text e hs) (held_text e gs) behind) ∙ ap (λ t. t ++ behind) (sym (held_text-append e hs gs)) in
    (subst (λ (t : List ℕ). IsKept e (class_of e c) t) same h.0, AreInDouble-append e hs gs behind h.1 i)
AreInDouble-append e (freed c ∷ hs) gs behind h i = (h.0, AreInDouble-append e hs gs behind h.1 i)

-- what was begun obeys them, whatever follows
abbrev IsSound : Escape → Begun → Type 0
IsSound e nothing = Unit {0}
IsSound e escaping = Unit {0}
IsSound e (in_single cs) = AreInSingle e cs
IsSound e (in_double hs) = (behind : List ℕ) → AreInDouble e hs behind
IsSound e (in_double_escaping hs) = (behind : List ℕ) → AreInDouble e hs behind

kept_more : (e : Escape) (hs : List Held) (c : ℕ) (k : Class) → class_of e c ≡ k → ((behind : List ℕ) → AreInDouble e hs behind) → ((behind : List ℕ) → IsKept e k behind) → (behind : List ℕ) → AreInDouble e (hs ++ kept c ∷ []) behind
kept_more e hs c k h i j behind = AreInDouble-append e hs (kept c ∷ []) behind (i (c ∷ behind)) (subst (λ (l : Class). IsKept e l behind) (sym h) (j behind), tt)

freed_more : (e : Escape) (hs : List Held) (c : ℕ) → acts_before (class_of e c) ≡ true → ((behind : List ℕ) → AreInDouble e hs behind) → (behind : List ℕ) → AreInDouble e (hs ++ freed c ∷ []) behind
freed_more e hs c h i behind = AreInDouble-append e hs (freed c ∷ []) behind (i (byte_of e ∷ c ∷ behind)) (h, tt)

escape_kept : (e : Escape) (behind : List ℕ) → IsIdleBefore e behind → IsKept e (class_of e (byte_of e)) behind
escape_kept e behind h = subst (λ (l : Class). IsKept e l behind) (sym (class_of-escape e)) h

idle_more : (e : Escape) (hs : List Held) (c : ℕ) (k : Class) → class_of e c ≡ k → acts_before k ≡ false → ((behind : List ℕ) → IsKept e k behind) → ((behind : List ℕ) → AreInDouble e hs behind)
    → (behind : List ℕ) → AreInDouble e ((hs ++ kept (byte_of e) ∷ []) ++ kept c ∷ []) behind
idle_more e hs c k h a j i behind =
    AreInDouble-append e (hs ++ kept (byte_of e) ∷ []) (kept c ∷ []) behind
    (AreInDouble-append e hs (kept (byte_of e) ∷ []) (c ∷ behind) (i (byte_of e ∷ c ∷ behind)) (escape_kept e (c ∷ behind) (ap acts_before h ∙ a), tt))
    (subst (λ (l : Class). IsKept e l behind) (sym h) (j behind), tt)

sound_more : (e : Escape) (b : Begun) (c : ℕ) (k : Class) → class_of e c ≡ k → IsSound e b → IsSound e (begun_by e b k c)
sound_more e nothing c DoubleQuote h i = λ behind. tt
sound_more e nothing c _ h i = tt
sound_more e escaping c k h i = tt
sound_more e (in_single cs) c SingleQuote h i = tt
sound_more e (in_single cs) c _ h i = AreInSingle-more e cs c (ap is_single h) i
sound_more e (in_double hs) c DoubleQuote h i = tt
sound_more e (in_double hs) c EscapeCharacter h i = i
sound_more e (in_double hs) c k h i = kept_more e hs c k h i (λ behind. tt)
sound_more e (in_double_escaping hs) c DoubleQuote h i = freed_more e hs c (ap acts_before h) i
sound_more e (in_double_escaping hs) c Dollar h i = freed_more e hs c (ap acts_before h) i
sound_more e (in_double_escaping hs) c EscapeCharacter h i = freed_more e hs c (ap acts_before h) i
sound_more e (in_double_escaping hs) c k h i = idle_more e hs c k h refl (λ behind. tt) i

stand_plain : (e : Escape) (c : ℕ) (k : Class) (ps : List Part) → class_of e c ≡ k → IsPlain k ps → IsPlain (class_of e c) ps
stand_plain e c k ps h i = subst (λ (l : Class). IsPlain l ps) (sym h) i

stand_more : (e : Escape) (b : Begun) (c : ℕ) (k : Class) (ps : List Part) → class_of e c ≡ k → IsSound e b → AllStand e ps → AllStand e (ended_by b k c ++ ps)
stand_more e nothing c Blank ps h i j = (h, j)
stand_more e nothing c Dollar ps h i j = (stand_plain e c Dollar ps h tt, j)
stand_more e nothing c Equals ps h i j = (stand_plain e c Equals ps h tt, j)
stand_more e nothing c Other ps h i j = (stand_plain e c Other ps h tt, j)
stand_more e nothing c _ ps h i j = j
stand_more e escaping c k ps h i j = (tt, j)
stand_more e (in_single cs) c SingleQuote ps h i j = (i, j)
stand_more e (in_single cs) c _ ps h i j = j
stand_more e (in_double hs) c DoubleQuote ps h i j = (i (34 ∷ written e ps), j)
stand_more e (in_double hs) c _ ps h i j = j
stand_more e (in_double_escaping hs) c k ps h i j = j

stand_at_end : (e : Escape) (b : Begun) → IsSound e b → AllStand e (ended_at_end e b)
stand_at_end e nothing i = tt
stand_at_end e escaping i = (stand_plain e (byte_of e) EscapeCharacter [] (class_of-escape e) refl, tt)
stand_at_end e (in_single cs) i = ((i, refl), tt)
stand_at_end e (in_double hs) i = ((i [], refl), tt)
stand_at_end e (in_double_escaping hs) i = ((AreInDouble-append e hs (kept (byte_of e) ∷ []) [] (i (byte_of e ∷ [])) (escape_kept e [] tt, tt), refl), tt)

all_stand : (e : Escape) (b : Begun) (text : List ℕ) → IsSound e b → AllStand e (parts_from e b text)
all_stand e b [] i = stand_at_end e b i
all_stand e b (c ∷ cs) i =
    let k = class_of e c in
    stand_more e b c k (parts_from e (begun_by e b k c) cs) refl i (all_stand e (begun_by e b k c) cs (sound_more e b c k refl i))

-- each text is made of the parts that are read
pub parts-made : (e : Escape) (text : List ℕ) → IsMadeOf e text (parts e text)
unfolding parts
parts-made e text = (all_stand e nothing text tt, sym (written-parts_from e nothing text))

-- and of no others: reading what parts are written as gives them back

pub parts_from-at : (e : Escape) (b : Begun) (c : ℕ) (cs : List ℕ) (k : Class) → class_of e c ≡ k → parts_from e b (c ∷ cs) ≡ ended_by b k c ++ parts_from e (begun_by e b k c) cs
parts_from-at e b c cs k h = ap (λ (l : Class). ended_by b l c ++ parts_from e (begun_by e b l c) cs) h

single_one : (e : Escape) (ds : List ℕ) (c : ℕ) (cs : List ℕ) (k : Class) → class_of e c ≡ k → is_single k ≡ false → parts_from e (in_single ds) (c ∷ cs) ≡ parts_from e (in_single (ds ++ c ∷ [])) cs
single_one e ds c cs SingleQuote h i = absurd (true≢false i)
single_one e ds c cs k h i = parts_from-at e (in_single ds) c cs k h

single_read : (e : Escape) (ds cs rest : List ℕ) → AreInSingle e cs → parts_from e (in_single ds) (cs ++ rest) ≡ parts_from e (in_single (ds ++ cs)) rest
single_read e ds [] rest h = ap (λ t. parts_from e (in_single t) rest) (sym (append-nil ds))
single_read e ds (c ∷ cs) rest h =
    single_one e ds c (cs ++ rest) (class_of e c) refl h.0 ∙ single_read e (ds ++ c ∷ []) cs rest h.1
    ∙ ap (λ t. parts_from e (in_single t) rest) (append_assoc ds (c ∷ []) cs)

idle_one : (e : Escape) (gs : List Held) (c : ℕ) (cs : List ℕ) (k : Class) → class_of e c ≡ k → acts_before k ≡ false
    → parts_from e (in_double_escaping gs) (c ∷ cs) ≡ parts_from e (in_double (gs ++ kept (byte_of e) ∷ [])) (c ∷ cs)
idle_one e gs c cs DoubleQuote h i = absurd (true≢false i)
idle_one e gs c cs Dollar h i = absurd (true≢false i)
idle_one e gs c cs EscapeCharacter h i = absurd (true≢false i)
idle_one e gs c cs k h i = parts_from-at e (in_double_escaping gs) c cs k h ∙ sym (parts_from-at e (in_double (gs ++ kept (byte_of e) ∷ [])) c cs k h)

idle_read : (e : Escape) (gs : List Held) (rest : List ℕ) → IsIdleBefore e rest → parts_from e (in_double_escaping gs) rest ≡ parts_from e (in_double (gs ++ kept (byte_of e) ∷ [])) rest
idle_read e gs [] h = refl
idle_read e gs (c ∷ cs) h = idle_one e gs c cs (class_of e c) refl h

kept_one : (e : Escape) (gs : List Held) (c : ℕ) (rest : List ℕ) (k : Class) → class_of e c ≡ k → IsKept e k rest → parts_from e (in_double gs) (c ∷ rest) ≡ parts_from e (in_double (gs ++ kept c ∷ [])) rest
kept_one e gs c rest DoubleQuote h i = absurd i
kept_one e gs c rest EscapeCharacter h i = parts_from-at e (in_double gs) c rest EscapeCharacter h ∙ idle_read e gs rest i ∙ ap (λ x. parts_from e (in_double (gs ++ kept x ∷ [])) rest) (sym (means_at e c EscapeCharacter h))
kept_one e gs c rest k h i = parts_from-at e (in_double gs) c rest k h

freed_one : (e : Escape) (gs : List Held) (c : ℕ) (rest : List ℕ) (k : Class) → class_of e c ≡ k → acts_before k ≡ true → parts_from e (in_double_escaping gs) (c ∷ rest) ≡ parts_from e (in_double (gs ++ freed c ∷ [])) rest
freed_one e gs c rest DoubleQuote h i = parts_from-at e (in_double_escaping gs) c rest DoubleQuote h
freed_one e gs c rest Dollar h i = parts_from-at e (in_double_escaping gs) c rest Dollar h
freed_one e gs c rest EscapeCharacter h i = parts_from-at e (in_double_escaping gs) c rest EscapeCharacter h
freed_one e gs c rest _ h i = absurd (true≢false (sym i))

double_read : (e : Escape) (gs hs : List Held) (rest : List ℕ) → AreInDouble e hs rest → parts_from e (in_double gs) (held_text e hs ++ rest) ≡ parts_from e (in_double (gs ++ hs)) rest
double_read e gs [] rest h = ap (λ t. parts_from e (in_double t) rest) (sym (append-nil gs))
double_read e gs (kept c ∷ hs) rest h =
    kept_one e gs c (held_text e hs ++ rest) (class_of e c) refl h.0 ∙ double_read e (gs ++ kept c ∷ []) hs rest h.1
    ∙ ap (λ t. parts_from e (in_double t) rest) (append_assoc gs (kept c ∷ []) hs)
double_read e gs (freed c ∷ hs) rest h =
    parts_from-at e (in_double gs) (byte_of e) (c ∷ (held_text e hs ++ rest)) EscapeCharacter (class_of-escape e)
    ∙ freed_one e gs c (held_text e hs ++ rest) (class_of e c) refl h.0 ∙ double_read e (gs ++ freed c ∷ []) hs rest h.1
    ∙ ap (λ t. parts_from e (in_double t) rest) (append_assoc gs (freed c ∷ []) hs)

plain_read : (e : Escape) (c : ℕ) (ps : List Part) (k : Class) → class_of e c ≡ k → IsPlain k ps → parts_from e nothing (written e ps) ≡ ps → parts_from e nothing (c ∷ written e ps) ≡ plain c ∷ ps
plain_read e c ps Dollar h i j = parts_from-at e nothing c (written e ps) Dollar h ∙ ap (λ (qs : List Part). plain c ∷ qs) j
plain_read e c ps Equals h i j = parts_from-at e nothing c (written e ps) Equals h ∙ ap (λ (qs : List Part). plain c ∷ qs) j
plain_read e c ps EscapeCharacter h i j = parts_from-at e nothing c (written e ps) EscapeCharacter h ∙ ap (λ (qs : List Part). parts_from e escaping (written e qs)) i ∙ ap₂ (λ x (qs : List Part). plain x ∷ qs) (sym (means_at e c EscapeCharacter h)) (sym i)
plain_read e c ps Other h i j = parts_from-at e nothing c (written e ps) Other h ∙ ap (λ (qs : List Part). plain c ∷ qs) j
plain_read e c ps _ h i j = absurd i

part_read : (e : Escape) (p : Part) (ps : List Part) → Stands e p ps → parts_from e nothing (written e ps) ≡ ps → parts_from e nothing (part_text e p ++ written e ps) ≡ p ∷ ps
part_read e (blank c) ps h j = parts_from-at e nothing c (written e ps) Blank h ∙ ap (λ (qs : List Part). blank c ∷ qs) j
part_read e (plain c) ps h j = plain_read e c ps (class_of e c) refl h j
part_read e (escaped c) ps h j = parts_from-at e nothing (byte_of e) (c ∷ written e ps) EscapeCharacter (class_of-escape e) ∙ ap (λ (qs : List Part). escaped c ∷ qs) j
part_read e (single cs) ps h j =
    parts_from-at e nothing 39 ((cs ++ 39 ∷ []) ++ written e ps) SingleQuote (class_of-single e)
    ∙ ap (λ t. parts_from e (in_single []) t) (append_assoc cs (39 ∷ []) (written e ps))
    ∙ single_read e [] cs (39 ∷ written e ps) h
    ∙ parts_from-at e (in_single cs) 39 (written e ps) SingleQuote (class_of-single e)
    ∙ ap (λ (qs : List Part). single cs ∷ qs) j
part_read e (double hs) ps h j =
    parts_from-at e nothing 34 ((held_text e hs ++ 34 ∷ []) ++ written e ps) DoubleQuote (class_of-double e)
    ∙ ap (λ t. parts_from e (in_double []) t) (append_assoc (held_text e hs) (34 ∷ []) (written e ps))
    ∙ double_read e [] hs (34 ∷ written e ps) h
    ∙ parts_from-at e (in_double hs) 34 (written e ps) DoubleQuote (class_of-double e)
    ∙ ap (λ (qs : List Part). double hs ∷ qs) j
part_read e (open_single cs) ps h j =
    ap (λ (qs : List Part). parts_from e nothing ((39 ∷ cs) ++ written e qs)) h.1
    ∙ parts_from-at e nothing 39 (cs ++ []) SingleQuote (class_of-single e)
    ∙ single_read e [] cs [] h.0
    ∙ ap (λ (qs : List Part). open_single cs ∷ qs) (sym h.1)
part_read e (open_double hs) ps h j =
    ap (λ (qs : List Part). parts_from e nothing ((34 ∷ held_text e hs) ++ written e qs)) h.1
    ∙ parts_from-at e nothing 34 (held_text e hs ++ []) DoubleQuote (class_of-double e)
    ∙ double_read e [] hs [] h.0
    ∙ ap (λ (qs : List Part). open_double hs ∷ qs) (sym h.1)

parts_read : (e : Escape) (ps : List Part) → AllStand e ps → parts_from e nothing (written e ps) ≡ ps
parts_read e [] h = refl
parts_read e (p ∷ ps) h = part_read e p ps h.0 (parts_read e ps h.1)

pub parts-only : (e : Escape) (text : List ℕ) (ps : List Part) → IsMadeOf e text ps → ps ≡ parts e text
unfolding parts
parts-only e text ps h = sym (ap (λ t. parts_from e nothing t) h.1 ∙ parts_read e ps h.0)

-- so the words and the open quote are those of the parts that are read

pub words-are : (e : Escape) (text : List ℕ) → AreWords e text (words e text)
unfolding words
words-are e text = (parts e text, parts-made e text, refl)

pub words-only : (e : Escape) (text : List ℕ) (found : List (List ℕ)) → AreWords e text found → found ≡ words e text
unfolding words
words-only e text found h = h.2 ∙ ap (λ (ps : List Part). words_among e [] ps) (parts-only e text h.0 h.1)

pub IsOpen-from : (e : Escape) (text : List ℕ) → ends_open e text ≡ true → IsOpen e text
unfolding ends_open
IsOpen-from e text h = (parts e text, parts-made e text, h)

pub IsOpen-is : (e : Escape) (text : List ℕ) → IsOpen e text → ends_open e text ≡ true
unfolding ends_open
IsOpen-is e text h = ap has_open (sym (parts-only e text h.0 h.1)) ∙ h.2

pub words-at : (e : Escape) (text : List ℕ) (found : List (List ℕ)) → found ≡ words e text → AreWords e text found
words-at e text found h = subst (λ (ws : List (List ℕ)). AreWords e text ws) (sym h) (words-are e text)

pub label_pair-is : (e : Escape) (word : List ℕ) → IsLabelCut e word (label_pair e word)
unfolding label_pair
label_pair-is e word = (parts e word, parts-made e word, refl)

pub label_pair-at : (e : Escape) (word : List ℕ) (cut : Option (List ℕ × List ℕ)) → cut ≡ label_pair e word → IsLabelCut e word cut
label_pair-at e word cut h = subst (λ (o : Option (List ℕ × List ℕ)). IsLabelCut e word o) (sym h) (label_pair-is e word)

pub label_pair-only : (e : Escape) (word : List ℕ) (cut : Option (List ℕ × List ℕ)) → IsLabelCut e word cut → cut ≡ label_pair e word
unfolding label_pair
label_pair-only e word cut h = h.2 ∙ ap (λ (ps : List Part). cut_parts e ps) (parts-only e word h.0 h.1)

-- a text without quotes and escape characters

class_of-blank : (e : Escape) (c : ℕ) → is_blank c ≡ true → class_of e c ≡ Blank
unfolding class_of
class_of-blank e c h = rw h refl

blank_only : (e : Escape) (c : ℕ) → class_of e c ≡ Blank → is_blank c ≡ false → ⊥
blank_only e c h b = true≢false (sym (means_at e c Blank h) ∙ b)

bare_other : (e : Escape) (c : ℕ) (cs : List ℕ) (k : Class) → class_of e c ≡ k → is_bare k ≡ true → is_blank c ≡ false → parts_from e nothing (c ∷ cs) ≡ plain c ∷ parts_from e nothing cs
bare_other e c cs Blank h i b = absurd (blank_only e c h b)
bare_other e c cs Dollar h i b = parts_from-at e nothing c cs Dollar h
bare_other e c cs Equals h i b = parts_from-at e nothing c cs Equals h
bare_other e c cs Other h i b = parts_from-at e nothing c cs Other h
bare_other e c cs _ h i b = absurd (true≢false (sym i))

bare_by : (e : Escape) (word : List ℕ) (c : ℕ) (cs : List ℕ) (b : Bool) → is_blank c ≡ b → is_bare (class_of e c) ≡ true
    → words_among e [] (parts_from e nothing cs) ≡ pieces_from [] cs → words_among e (word ++ c ∷ []) (parts_from e nothing cs) ≡ pieces_from (word ++ c ∷ []) cs
    → words_among e word (parts_from e nothing (c ∷ cs)) ≡ (if b then if_any word ++ pieces_from [] cs else pieces_from (word ++ c ∷ []) cs)
bare_by e word c cs true b h i j = ap (words_among e word) (parts_from-at e nothing c cs Blank (class_of-blank e c b)) ∙ ap (λ (ws : List (List ℕ)). if_any word ++ ws) i
bare_by e word c cs false b h i j = ap (words_among e word) (bare_other e c cs (class_of e c) refl h b) ∙ j

bare_words : (e : Escape) (word text : List ℕ) → AreUnquoted e text → words_among e word (parts_from e nothing text) ≡ pieces_from word text
bare_words e word [] h = refl
bare_words e word (c ∷ cs) h = bare_by e word c cs (is_blank c) refl h.0 (bare_words e [] cs h.1) (bare_words e (word ++ c ∷ []) cs h.1)

pub words-unquoted : (e : Escape) (text : List ℕ) → AreUnquoted e text → words e text ≡ pieces text
unfolding parts words
words-unquoted e text h = bare_words e [] text h ∙ pieces-read text
