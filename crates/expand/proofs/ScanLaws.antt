-- Laws of the scan: each text leaves just one list of marked characters, or none.
use Rattle.std.specs.Prelude.{◌↔◌, ◌≡◌, ℕ, ◌==◌, ◌||◌, Bool, true, false, List, [], ◌∷◌, ◌++◌, if◌then◌else◌, Option, Some, None, option_map, map, refl}
use Rattle.std.proofs.Common.{sym, ◌∙◌, ap, ap₂, subst, append_assoc, append-nil, arith}
use Rattle.std.proofs.lemmas.Bool.{true≢false}
use Rattle.std.proofs.lemmas.Bool.Decides.{nat_tests}
use Rattle.std.specs.Str.{IsUtf8, chars}
use Rattle.lines.specs.Escape.{byte_of}
use Rattle.lines.specs.declared.escape.Escape.{Escape}
use Rattle.words.specs.declared.class.Class.{Class}
use Rattle.words.specs.declared.class.Class.TheVariants.{Blank, SingleQuote, DoubleQuote, Dollar, EscapeCharacter}
use Rattle.words.specs.Class.{class_of}
use Rattle.words.specs.Parts.{Held, kept, freed, Part, held_text}
use Rattle.words.specs.Cutting.{has_open, ends_open}
use Rattle.words.specs.ReadParts.{Begun, nothing, escaping, in_single, in_double, in_double_escaping, ended_by, begun_by, ended_at_end, parts_from, parts}
use Rattle.words.proofs.PartLaws.{parts-made, parts-only}
use Rattle.words.specs.Quote.{state_after}
use Rattle.words.proofs.QuoteLaws.{state_of, state_more, has_open-more, ends_open-chars}
use Rattle.words.specs.declared.quote.QuoteState.{QuoteState}
use Rattle.words.specs.declared.quote.QuoteState.TheVariants.{Outside}
use Rattle.expand.specs.Scan.{marked_held, marked_part, marked, is_freed, IsIdleBefore, AreFreed, IsScannedBare, IsScannedQuoted, IsScanned}
use Rattle.expand.specs.PrivateScan.{emitted, emitted_at_end, quoted_from, bare_from, quoted_unless, scanned}
use Rattle.expand.specs.declared.character.Character.{Character}
use Rattle.expand.specs.declared.character.Character.TheVariants.{Active, Literal}
use Rattle.expand.specs.declared.kind.Kind.{Kind}
use Rattle.expand.specs.declared.kind.Kind.TheVariants.{Quoted, Unquoted}

eqb_equal : (a b : ℕ) → (a == b) ≡ true → a ≡ b
eqb_equal a b h = grind (arith, nat_tests)

eqb_same : (a b : ℕ) → a ≡ b → (a == b) ≡ true
eqb_same a b h = grind (arith, nat_tests)

-- parts, one after another

marked-append : (ps qs : List Part) → marked (ps ++ qs) ≡ marked ps ++ marked qs
marked-append [] qs = refl
marked-append (p ∷ ps) qs = ap (λ (t : List Character). marked_part p ++ t) (marked-append ps qs) ∙ sym (append_assoc (marked_part p) (marked ps) (marked qs))

abbrev found : List Part → Option (List Character)
found ps = quoted_unless (has_open ps) (marked ps)

unless_map : (b : Bool) (ms ns : List Character) → quoted_unless b (ms ++ ns) ≡ option_map (λ (t : List Character). ms ++ t) (quoted_unless b ns)
unless_map true ms ns = refl
unless_map false ms ns = refl

found_more : (b : Begun) (k : Class) (c : ℕ) (ps : List Part) → found (ended_by b k c ++ ps) ≡ option_map (λ (t : List Character). marked (ended_by b k c) ++ t) (found ps)
found_more b k c ps = ap₂ (λ (b : Bool) (t : List Character). quoted_unless b t) (has_open-more b k c ps) (marked-append (ended_by b k c) ps) ∙ unless_map (has_open ps) (marked (ended_by b k c)) (marked ps)

map_twice : (ms ns : List Character) (o : Option (List Character))
    → option_map (λ (t : List Character). ms ++ t) (option_map (λ (t : List Character). ns ++ t) o) ≡ option_map (λ (t : List Character). (ms ++ ns) ++ t) o
map_twice ms ns None = refl
map_twice ms ns (Some t) = ap (λ (u : List Character). Some u) (sym (append_assoc ms ns t))

-- what was begun leaves so far
abbrev begun_marks : Begun → List Character
begun_marks nothing = []
begun_marks escaping = []
begun_marks (in_single cs) = map (λ c. Literal c) cs
begun_marks (in_double hs) = map marked_held hs
begun_marks (in_double_escaping hs) = map marked_held hs

literal-more : (cs : List ℕ) (c : ℕ) → map (λ d. Literal d) cs ++ Literal c ∷ [] ≡ map (λ d. Literal d) (cs ++ c ∷ [])
literal-more [] c = refl
literal-more (d ∷ ds) c = ap (λ (t : List Character). Literal d ∷ t) (literal-more ds c)

held-more : (hs gs : List Held) → map marked_held hs ++ map marked_held gs ≡ map marked_held (hs ++ gs)
held-more [] gs = refl
held-more (h ∷ hs) gs = ap (λ (t : List Character). marked_held h ∷ t) (held-more hs gs)

held-idle : (e : Escape) (hs : List Held) (c : ℕ) → map marked_held hs ++ Active (byte_of e) ∷ Active c ∷ [] ≡ map marked_held ((hs ++ kept (byte_of e) ∷ []) ++ kept c ∷ [])
held-idle e hs c = held-more hs (kept (byte_of e) ∷ kept c ∷ []) ∙ ap (λ (gs : List Held). map marked_held gs) (sym (append_assoc hs (kept (byte_of e) ∷ []) (kept c ∷ [])))

quotes_end : (ms : List Character) → ms ++ [] ≡ (ms ++ []) ++ []
quotes_end ms = sym (append-nil (ms ++ []))

marks_more : (e : Escape) (b : Begun) (k : Class) (c : ℕ) → begun_marks b ++ emitted e (state_of b) k c ≡ marked (ended_by b k c) ++ begun_marks (begun_by e b k c)
marks_more e nothing Blank c = refl
marks_more e nothing _ c = refl
marks_more e escaping Blank c = refl
marks_more e escaping _ c = refl
marks_more e (in_single cs) SingleQuote c = quotes_end (map (λ d. Literal d) cs)
marks_more e (in_single cs) _ c = literal-more cs c
marks_more e (in_double hs) DoubleQuote c = quotes_end (map marked_held hs)
marks_more e (in_double hs) EscapeCharacter c = append-nil (map marked_held hs)
marks_more e (in_double hs) _ c = held-more hs (kept c ∷ [])
marks_more e (in_double_escaping hs) DoubleQuote c = held-more hs (freed c ∷ [])
marks_more e (in_double_escaping hs) Dollar c = held-more hs (freed c ∷ [])
marks_more e (in_double_escaping hs) EscapeCharacter c = held-more hs (freed c ∷ [])
marks_more e (in_double_escaping hs) _ c = held-idle e hs c

at_end : (e : Escape) (b : Begun) → found (ended_at_end e b) ≡ option_map (λ (t : List Character). begun_marks b ++ t) (emitted_at_end e (state_of b))
at_end e nothing = refl
at_end e escaping = refl
at_end e (in_single cs) = refl
at_end e (in_double hs) = refl
at_end e (in_double_escaping hs) = refl

-- going through a text character by character leaves what its parts leave
quoted_from-found : (e : Escape) (b : Begun) (text : List ℕ) → found (parts_from e b text) ≡ option_map (λ (t : List Character). begun_marks b ++ t) (quoted_from e (state_of b) text)
quoted_from-found e b [] = at_end e b
quoted_from-found e b (c ∷ cs) =
    let k : Class = class_of e c in
    let next : Begun = begun_by e b k c in
    found_more b k c (parts_from e next cs)
    ∙ ap (λ (o : Option (List Character)). option_map (λ (t : List Character). marked (ended_by b k c) ++ t) o) (quoted_from-found e next cs)
    ∙ map_twice (marked (ended_by b k c)) (begun_marks next) (quoted_from e (state_of next) cs)
    ∙ ap₂ (λ (ms : List Character) (p : QuoteState). option_map (λ (t : List Character). ms ++ t) (quoted_from e p cs)) (sym (marks_more e b k c)) (sym (state_more e b k c))
    ∙ sym (map_twice (begun_marks b) (emitted e (state_of b) k c) (quoted_from e (state_after (state_of b) k) cs))

map_none : (o : Option (List Character)) → option_map (λ (t : List Character). t) o ≡ o
map_none None = refl
map_none (Some t) = refl

pub quoted_from-is : (e : Escape) (text : List ℕ) → quoted_from e Outside text ≡ quoted_unless (has_open (parts e text)) (marked (parts e text))
unfolding parts
quoted_from-is e text = sym (map_none (quoted_from e Outside text)) ∙ sym (quoted_from-found e nothing text)

-- texts without quotes

abbrev held_from : Escape → Bool → List ℕ → List Held
held_from e false [] = []
held_from e true [] = kept (byte_of e) ∷ []
held_from e false (c ∷ cs) = if c == byte_of e then held_from e true cs else kept c ∷ held_from e false cs
held_from e true (c ∷ cs) = if is_freed e c then freed c ∷ held_from e false cs else kept (byte_of e) ∷ kept c ∷ held_from e false cs

abbrev held_back : Escape → Bool → List ℕ
held_back e false = []
held_back e true = byte_of e ∷ []

marked-if : (t : Bool) (hs gs : List Held) → map marked_held (if t then hs else gs) ≡ (if t then map marked_held hs else map marked_held gs)
marked-if true hs gs = refl
marked-if false hs gs = refl

if_both : (t : Bool) (ms ns os us : List Character) → ms ≡ os → ns ≡ us → (if t then ms else ns) ≡ (if t then os else us)
if_both true ms ns os us h i = h
if_both false ms ns os us h i = i

marked-held_from : (e : Escape) (b : Bool) (text : List ℕ) → map marked_held (held_from e b text) ≡ bare_from e b text
marked-held_from e false [] = refl
marked-held_from e true [] = refl
marked-held_from e false (c ∷ cs) =
    marked-if (c == byte_of e) (held_from e true cs) (kept c ∷ held_from e false cs)
    ∙ if_both (c == byte_of e) _ _ _ _ (marked-held_from e true cs) (ap (λ (t : List Character). Active c ∷ t) (marked-held_from e false cs))
marked-held_from e true (c ∷ cs) =
    marked-if (is_freed e c) (freed c ∷ held_from e false cs) (kept (byte_of e) ∷ kept c ∷ held_from e false cs)
    ∙ if_both (is_freed e c) _ _ _ _ (ap (λ (t : List Character). Literal c ∷ t) (marked-held_from e false cs)) (ap (λ (t : List Character). Active (byte_of e) ∷ Active c ∷ t) (marked-held_from e false cs))

text_by : (e : Escape) (t : Bool) (hs gs : List Held) (text : List ℕ) → (t ≡ true → held_text e hs ≡ text) → (t ≡ false → held_text e gs ≡ text) → held_text e (if t then hs else gs) ≡ text
text_by e true hs gs text h i = h refl
text_by e false hs gs text h i = i refl

held_text-held_from : (e : Escape) (b : Bool) (text : List ℕ) → held_text e (held_from e b text) ≡ held_back e b ++ text
held_text-held_from e false [] = refl
held_text-held_from e true [] = refl
held_text-held_from e false (c ∷ cs) =
    text_by e (c == byte_of e) _ _ _ (λ h. held_text-held_from e true cs ∙ ap (λ d. d ∷ cs) (sym (eqb_equal c (byte_of e) h))) (λ _. ap (λ t. c ∷ t) (held_text-held_from e false cs))
held_text-held_from e true (c ∷ cs) =
    text_by e (is_freed e c) _ _ _ (λ _. ap (λ t. byte_of e ∷ c ∷ t) (held_text-held_from e false cs)) (λ _. ap (λ t. byte_of e ∷ c ∷ t) (held_text-held_from e false cs))

freed_by : (e : Escape) (t : Bool) (hs gs : List Held) → (t ≡ true → AreFreed e hs) → (t ≡ false → AreFreed e gs) → AreFreed e (if t then hs else gs)
freed_by e true hs gs h i = h refl
freed_by e false hs gs h i = i refl

or_right : (a b : Bool) → b ≡ true → (a || b) ≡ true
or_right true b h = refl
or_right false b h = h

freed_itself : (e : Escape) (c : ℕ) → c ≡ byte_of e → is_freed e c ≡ true
freed_itself e c h = or_right (c == 36) (c == byte_of e) (eqb_same c (byte_of e) h)

areFreed-held_from : (e : Escape) (b : Bool) (text : List ℕ) → AreFreed e (held_from e b text)
areFreed-held_from e false [] = tt
areFreed-held_from e true [] = (λ _. tt, tt)
areFreed-held_from e false (c ∷ cs) =
    freed_by e (c == byte_of e) _ _ (λ _. areFreed-held_from e true cs) (λ h. (λ i. absurd (true≢false (sym (eqb_same c (byte_of e) i) ∙ h)), areFreed-held_from e false cs))
areFreed-held_from e true (c ∷ cs) =
    freed_by e (is_freed e c) _ _ (λ h. (h, areFreed-held_from e false cs)) (λ h. (λ _. h, (λ i. absurd (true≢false (sym (freed_itself e c i) ∙ h)), areFreed-held_from e false cs)))

pub bare-scanned : (e : Escape) (text : List ℕ) → IsScannedBare e text (bare_from e false text)
bare-scanned e text = (held_from e false text, areFreed-held_from e false text, sym (held_text-held_from e false text), sym (marked-held_from e false text))

if_true : (t : Bool) (ms ns : List Character) → t ≡ true → (if t then ms else ns) ≡ ms
if_true t ms ns h = ap (λ (u : Bool). if u then ms else ns) h

if_false : (t : Bool) (ms ns : List Character) → t ≡ false → (if t then ms else ns) ≡ ns
if_false t ms ns h = ap (λ (u : Bool). if u then ms else ns) h

not_escape : (e : Escape) (c : ℕ) (t : Bool) → (c == byte_of e) ≡ t → is_freed e c ≡ false → (c == byte_of e) ≡ false
not_escape e c true h i = absurd (true≢false (sym (freed_itself e c (eqb_equal c (byte_of e) h)) ∙ i))
not_escape e c false h i = h

bare_from-idle : (e : Escape) (text : List ℕ) → IsIdleBefore e text → bare_from e true text ≡ Active (byte_of e) ∷ bare_from e false text
bare_from-idle e [] h = refl
bare_from-idle e (c ∷ cs) h =
    if_false (is_freed e c) _ _ h ∙ ap (λ (t : List Character). Active (byte_of e) ∷ t) (sym (if_false (c == byte_of e) _ _ (not_escape e c (c == byte_of e) refl h)))

kept_by : (e : Escape) (c : ℕ) (text : List ℕ) (t : Bool) → (c == byte_of e) ≡ t → (c ≡ byte_of e → IsIdleBefore e text) → bare_from e false (c ∷ text) ≡ Active c ∷ bare_from e false text
kept_by e c text true h i =
    if_true (c == byte_of e) _ _ h ∙ bare_from-idle e text (i (eqb_equal c (byte_of e) h)) ∙ ap (λ d. Active d ∷ bare_from e false text) (sym (eqb_equal c (byte_of e) h))
kept_by e c text false h i = if_false (c == byte_of e) _ _ h

bare_read : (e : Escape) (hs : List Held) → AreFreed e hs → bare_from e false (held_text e hs) ≡ map marked_held hs
bare_read e [] h = refl
bare_read e (kept c ∷ hs) h = kept_by e c (held_text e hs) (c == byte_of e) refl h.0 ∙ ap (λ (t : List Character). Active c ∷ t) (bare_read e hs h.1)
bare_read e (freed c ∷ hs) h =
    if_true (byte_of e == byte_of e) _ _ (eqb_same (byte_of e) (byte_of e) refl) ∙ if_true (is_freed e c) _ _ h.0 ∙ ap (λ (t : List Character). Literal c ∷ t) (bare_read e hs h.1)

pub bare-only : (e : Escape) (text : List ℕ) (ms : List Character) → IsScannedBare e text ms → bare_from e false text ≡ ms
bare-only e text ms h = ap (λ t. bare_from e false t) h.2 ∙ bare_read e h.0 h.1 ∙ sym h.3

-- of texts with quotes

unless_some : (b : Bool) (ms ns : List Character) → quoted_unless b ms ≡ Some ns → (b ≡ false) × (ns ≡ ms)
unless_some true ms ns h = cc
unless_some false ms ns h = (refl, cc)

pub quoted-scanned : (e : Escape) (text : List ℕ) (ms : List Character) → quoted_unless (has_open (parts e text)) (marked (parts e text)) ≡ Some ms → IsScannedQuoted e text ms
quoted-scanned e text ms h =
    let is = unless_some (has_open (parts e text)) (marked (parts e text)) ms h in
    (parts e text, parts-made e text, is.0, is.1)

pub quoted-only : (e : Escape) (text : List ℕ) (ms : List Character) → IsScannedQuoted e text ms → quoted_unless (has_open (parts e text)) (marked (parts e text)) ≡ Some ms
quoted-only e text ms h =
    let same : h.0 ≡ parts e text = parts-only e text h.0 h.1 in
    ap (λ (ps : List Part). found ps) (sym same) ∙ ap (λ (b : Bool). quoted_unless b (marked h.0)) h.2 ∙ ap (λ (t : List Character). Some t) (sym h.3)

-- what scanning gives is what is scanned, and nothing else is

pub scanned-is : (kind : Kind) (e : Escape) (text : List ℕ) (ms : List Character) → scanned kind e text ≡ Some ms → IsScanned kind e text ms
unfolding scanned
scanned-is Quoted e text ms h = quoted-scanned e text ms h
scanned-is Unquoted e text ms h = let same : bare_from e false text ≡ ms = cc in subst (λ (t : List Character). IsScannedBare e text t) same (bare-scanned e text)

pub scanned-only : (kind : Kind) (e : Escape) (text : List ℕ) (ms : List Character) → IsScanned kind e text ms → scanned kind e text ≡ Some ms
unfolding scanned
scanned-only Quoted e text ms h = quoted-only e text ms h
scanned-only Unquoted e text ms h = ap (λ (t : List Character). Some t) (bare-only e text ms h)

-- a text leaves none exactly where a quote is open

unless_none : (b : Bool) (ms : List Character) → quoted_unless b ms ≡ None → b ≡ true
unless_none true ms h = refl
unless_none false ms h = cc

pub open_not_scanned : (e : Escape) (text : List ℕ) → IsUtf8 text → (ends_open e text ≡ true) ↔ (scanned Quoted e (chars text) ≡ None)
unfolding scanned ends_open
open_not_scanned e text u =
    let marks : List Character = marked (parts e (chars text)) in
    (λ h. ap (λ (b : Bool). quoted_unless b marks) (sym (ends_open-chars e text u) ∙ h), λ h. ends_open-chars e text u ∙ unless_none (has_open (parts e (chars text))) marks h)

none_some : (ms : List Character) → None ≡ Some ms → ⊥
none_some ms e = cc

-- so a text has an open quote where it leaves no list of marked characters
pub open_not_read : (e : Escape) (text : List ℕ) → IsUtf8 text → (ends_open e text ≡ true) ↔ ((found : List Character) → ¬ (IsScanned Quoted e (chars text) found))
open_not_read e text u =
    let same = open_not_scanned e text u in
    (λ o found s. none_some found (sym (same.0 o) ∙ scanned-only Quoted e (chars text) found s), λ none. same.1 (by (scanned Quoted e (chars text)) refl none))
  where
    by : (o : Option (List Character)) → scanned Quoted e (chars text) ≡ o → ((found : List Character) → ¬ (IsScanned Quoted e (chars text) found)) → scanned Quoted e (chars text) ≡ None
    by None h none = h
    by (Some ms) h none = absurd (none ms (scanned-is Quoted e (chars text) ms h))
