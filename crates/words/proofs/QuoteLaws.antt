-- Laws of the state of quotes: it is what the text's parts so far say, and says whether a quote is open at the text's end.
use Rattle.std.specs.Prelude.{◌≡◌, ◌≤◌, ◌+◌, ◌/◌, ℕ, Bool, true, false, List, [], ◌∷◌, ◌++◌, refl}
use Rattle.std.specs.Str.{IsUtf8, chars}
use Rattle.std.proofs.Common.{sym, ◌∙◌, ap, arith}
use Rattle.std.proofs.lemmas.Bool.Decides.{nat_tests}
use Rattle.std.proofs.lemmas.Str.{encodes-chars}
use lib.Dec.{ltb}
use lib.Utf8.{encode, encodes, next}
use mathlib.Core.Bool.{cond}
use Rattle.lines.specs.declared.escape.Escape.{Escape}
use Rattle.lines.specs.declared.escape.Escape.TheVariants.{Backslash, Backtick}
use Rattle.words.specs.declared.class.Class.{Class}
use Rattle.words.specs.declared.class.Class.TheVariants.{Blank, Other}
use Rattle.words.specs.declared.quote.QuoteState.{QuoteState}
use Rattle.words.specs.declared.quote.QuoteState.TheVariants.{Outside, Escaped, Single, Double, DoubleEscaped}
use Rattle.words.specs.Class.{class_of}
use Rattle.words.specs.Parts.{Part}
use Rattle.words.specs.Cutting.{has_open, ends_open}
use Rattle.words.specs.ReadParts.{Begun, nothing, escaping, in_single, in_double, in_double_escaping, ended_by, begun_by, ended_at_end, parts_from, parts}
use Rattle.words.specs.Quote.{state_after, is_in_quotes}

-- where the next character stands, by what was begun
abbrev pub state_of : Begun → QuoteState
state_of nothing = Outside
state_of escaping = Escaped
state_of (in_single cs) = Single
state_of (in_double hs) = Double
state_of (in_double_escaping hs) = DoubleEscaped

pub state_more : (e : Escape) (b : Begun) (k : Class) (c : ℕ) → state_after (state_of b) k ≡ state_of (begun_by e b k c)
state_more e nothing Blank c = refl
state_more e nothing _ c = refl
state_more e escaping k c = refl
state_more e (in_single cs) Blank c = refl
state_more e (in_single cs) _ c = refl
state_more e (in_double hs) Blank c = refl
state_more e (in_double hs) _ c = refl
state_more e (in_double_escaping hs) Blank c = refl
state_more e (in_double_escaping hs) _ c = refl

-- whether a quote is open at the end of a text
abbrev pub open_from : Escape → QuoteState → List ℕ → Bool
open_from e p [] = is_in_quotes p
open_from e p (c ∷ cs) = open_from e (state_after p (class_of e c)) cs

pub has_open-more : (b : Begun) (k : Class) (c : ℕ) (ps : List Part) → has_open (ended_by b k c ++ ps) ≡ has_open ps
has_open-more nothing Blank c ps = refl
has_open-more nothing _ c ps = refl
has_open-more escaping k c ps = refl
has_open-more (in_single cs) Blank c ps = refl
has_open-more (in_single cs) _ c ps = refl
has_open-more (in_double hs) Blank c ps = refl
has_open-more (in_double hs) _ c ps = refl
has_open-more (in_double_escaping hs) k c ps = refl

open_at_end : (e : Escape) (b : Begun) → is_in_quotes (state_of b) ≡ has_open (ended_at_end e b)
open_at_end e nothing = refl
open_at_end e escaping = refl
open_at_end e (in_single cs) = refl
open_at_end e (in_double hs) = refl
open_at_end e (in_double_escaping hs) = refl

pub open_from-parts : (e : Escape) (b : Begun) (text : List ℕ) → open_from e (state_of b) text ≡ has_open (parts_from e b text)
open_from-parts e b [] = open_at_end e b
open_from-parts e b (c ∷ cs) =
    let k = class_of e c in
    ap (λ (p : QuoteState). open_from e p cs) (state_more e b k c) ∙ open_from-parts e (begun_by e b k c) cs ∙ sym (has_open-more b k c (parts_from e (begun_by e b k c) cs))

pub open_from-is : (e : Escape) (text : List ℕ) → open_from e Outside text ≡ ends_open e text
unfolding parts ends_open
open_from-is e text = open_from-parts e nothing text

-- the bytes of a text leave open what its characters leave open: a character beyond ASCII is `Other`, and so is each of its bytes

class_of-beyond : (e : Escape) (c : ℕ) → 128 ≤ c → class_of e c ≡ Other
unfolding class_of
class_of-beyond Backslash c h = grind (arith, nat_tests)
class_of-beyond Backtick c h = grind (arith, nat_tests)

-- bytes beyond ASCII, at least one of them
abbrev AreBeyond : ℕ → List ℕ → Type 0
AreBeyond b [] = 128 ≤ b
AreBeyond b (c ∷ cs) = (128 ≤ b) × AreBeyond c cs

other_twice : (p : QuoteState) → state_after (state_after p Other) Other ≡ state_after p Other
other_twice Outside = refl
other_twice _ = refl

open_beyond : (e : Escape) (p : QuoteState) (b : ℕ) (bs rest : List ℕ) → AreBeyond b bs → open_from e p (b ∷ (bs ++ rest)) ≡ open_from e (state_after p Other) rest
open_beyond e p b [] rest h = ap (λ (k : Class). open_from e (state_after p k) rest) (class_of-beyond e b h)
open_beyond e p b (c ∷ cs) rest h =
    ap (λ (k : Class). open_from e (state_after p k) (c ∷ (cs ++ rest))) (class_of-beyond e b h.0)
    ∙ open_beyond e (state_after p Other) c cs rest h.1 ∙ ap (λ (q : QuoteState). open_from e q rest) (other_twice p)

beyond : (e : Escape) (p : QuoteState) (c : ℕ) (rest : List ℕ) → ltb c 128 ≡ false → open_from e (state_after p Other) rest ≡ open_from e (state_after p (class_of e c)) rest
beyond e p c rest h = ap (λ (k : Class). open_from e (state_after p k) rest) (sym (class_of-beyond e c (grind (arith, nat_tests))))

open_encoded : (e : Escape) (p : QuoteState) (c : ℕ) (rest : List ℕ) (x y z : Bool) → ltb c 128 ≡ x
    → open_from e p (cond x (c ∷ []) (cond y ((192 + c / 64) ∷ next c ∷ []) (cond z ((224 + c / 4096) ∷ next (c / 64) ∷ next c ∷ []) ((240 + c / 262144) ∷ next (c / 4096) ∷ next (c / 64) ∷ next c ∷ []))) ++ rest)
    ≡ open_from e (state_after p (class_of e c)) rest
open_encoded e p c rest true y z h = refl
open_encoded e p c rest false true z h = open_beyond e p _ (next c ∷ []) rest (omega arith, omega arith) ∙ beyond e p c rest h
open_encoded e p c rest false false true h = open_beyond e p _ (next (c / 64) ∷ next c ∷ []) rest (omega arith, (omega arith, omega arith)) ∙ beyond e p c rest h
open_encoded e p c rest false false false h = open_beyond e p _ (next (c / 4096) ∷ next (c / 64) ∷ next c ∷ []) rest (omega arith, (omega arith, (omega arith, omega arith))) ∙ beyond e p c rest h

open_from-encode : (e : Escape) (p : QuoteState) (c : ℕ) (rest : List ℕ) → open_from e p (encode c ++ rest) ≡ open_from e (state_after p (class_of e c)) rest
unfolding encode
open_from-encode e p c rest = open_encoded e p c rest (ltb c 128) (ltb c 2048) (ltb c 65536) refl

open_from-encodes : (e : Escape) (p : QuoteState) (cs : List ℕ) → open_from e p (encodes cs) ≡ open_from e p cs
open_from-encodes e p [] = refl
open_from-encodes e p (c ∷ cs) = open_from-encode e p c (encodes cs) ∙ open_from-encodes e (state_after p (class_of e c)) cs

pub ends_open-chars : (e : Escape) (text : List ℕ) → IsUtf8 text → ends_open e text ≡ ends_open e (chars text)
ends_open-chars e text h =
    sym (open_from-is e text) ∙ ap (open_from e Outside) (sym (encodes-chars text h))
    ∙ open_from-encodes e Outside (chars text) ∙ open_from-is e (chars text)
