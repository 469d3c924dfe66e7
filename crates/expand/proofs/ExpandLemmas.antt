-- What the value of tokens is: that of the word that they stand for; and what they are refused with.
use Rattle.std.proofs.Common.{◌≡◌, ◌<◌, ◌≤◌, ℕ, zero, suc, Bool, true, false, List, [], ◌∷◌, ◌++◌, Option, Some, None, length, refl, ap, subst, ◌∙◌, sym, append_assoc, append-nil, arith}
use Rattle.std.specs.Prelude.{if◌then◌else◌, nat_lt, option_map, Result, Ok, Err}
use Rattle.std.specs.Option.{unwrap_or}
use Rattle.std.proofs.lemmas.Bool.Decides.{nat_tests}
use Rattle.plain.specs.declared.fault.Fault.{Fault}
use Rattle.plain.specs.declared.fault.Fault.TheVariants.{Because, Memory}
use Rattle.expand.specs.Value.{Parts, chosen, choice_of, passes, text_of, value, first_of, chosen_refusal, refusal}
use Rattle.expand.specs.PrivateTokens.{innermost, around, with_plain, levels, word_of}
use Rattle.expand.specs.PrivateExpanding.{run, run_chosen, sought, sought_chosen, IsWithin}
use Rattle.expand.specs.Expanding.{Gives, fault_of, unexpanded}
use Rattle.plain.specs.Limits.{most_text_bytes}
use Rattle.expand.specs.declared.fault.Unexpanded.{Unexpanded}
use Rattle.expand.specs.declared.fault.Unexpanded.TheVariants.{TooLong, Required}
use Rattle.expand.specs.declared.operator.Choice.{Choice}
use Rattle.expand.specs.declared.operator.Choice.TheVariants.{Own, Word, Nothing, Refusal}
use Rattle.expand.specs.declared.token.Token.{Token}
use Rattle.expand.specs.declared.token.Token.TheVariants.{Plain, Variable, Open, Close}

-- the values of the first levels, one after another
abbrev firsts : (List ℕ → Option (List ℕ)) → ℕ → List Parts → List ℕ
firsts s zero ws = []
firsts s (suc k) [] = []
firsts s (suc k) (w ∷ ws) = value s w ++ firsts s k ws

-- the first one of the first levels
abbrev refusals : (List ℕ → Option (List ℕ)) → ℕ → List Parts → Option (List ℕ)
refusals s zero ws = None
refusals s (suc k) [] = None
refusals s (suc k) (w ∷ ws) = first_of (refusal s w) (refusals s k ws)

abbrev below : ℕ → List Parts → List Parts
below zero ws = ws
below (suc n) ws = below n (around ws)

below-nil : (n : ℕ) → below n [] ≡ []
below-nil zero = refl
below-nil (suc n) = below-nil n

firsts-none : (s : List ℕ → Option (List ℕ)) (k : ℕ) → firsts s k [] ≡ []
firsts-none s zero = refl
firsts-none s (suc k) = refl

refusals-none : (s : List ℕ → Option (List ℕ)) (k : ℕ) → refusals s k [] ≡ None
refusals-none s zero = refl
refusals-none s (suc k) = refl

firsts-split : (s : List ℕ → Option (List ℕ)) (k : ℕ) (ws : List Parts) → firsts s (suc k) ws ≡ value s (innermost ws) ++ firsts s k (around ws)
firsts-split s k [] = sym (firsts-none s k)
firsts-split s k (w ∷ ws) = refl

refusals-split : (s : List ℕ → Option (List ℕ)) (k : ℕ) (ws : List Parts) → refusals s (suc k) ws ≡ first_of (refusal s (innermost ws)) (refusals s k (around ws))
refusals-split s k [] = sym (refusals-none s k)
refusals-split s k (w ∷ ws) = refl

firsts-plain : (s : List ℕ → Option (List ℕ)) (k : ℕ) (text : List ℕ) (ws : List Parts) → firsts s (suc k) (with_plain text ws) ≡ text ++ firsts s (suc k) ws
firsts-plain s k [] ws = refl
firsts-plain s k (b ∷ bs) ws = ap (λ t. b ∷ t) (sym (firsts-split s k (with_plain bs ws)) ∙ firsts-plain s k bs ws)

refusals-plain : (s : List ℕ → Option (List ℕ)) (k : ℕ) (text : List ℕ) (ws : List Parts) → refusals s (suc k) (with_plain text ws) ≡ refusals s (suc k) ws
refusals-plain s k [] ws = refl
refusals-plain s k (b ∷ bs) ws = sym (refusals-split s k (with_plain bs ws)) ∙ refusals-plain s k bs ws

around-plain : (text : List ℕ) (ws : List Parts) → around (with_plain text ws) ≡ around ws
around-plain [] ws = refl
around-plain (b ∷ bs) ws = around-plain bs ws

run-chosen : (choice : Choice) (own inner rest more word after : List ℕ) → word ≡ inner ++ (rest ++ more) → after ≡ rest ++ more
    → run_chosen choice own word after ≡ (chosen choice own inner ++ rest) ++ more
run-chosen Own own inner rest more word after h i = ap (λ t. own ++ t) i ∙ sym (append_assoc own rest more)
run-chosen Word own inner rest more word after h i = h ∙ sym (append_assoc inner rest more)
run-chosen Nothing own inner rest more word after h i = i
run-chosen Refusal own inner rest more word after h i = i

run-firsts : (s : List ℕ → Option (List ℕ)) (n d : ℕ) (ts : List Token) → run s n d ts ≡ firsts s (suc d) (below n (levels ts))
run-firsts s zero d [] = sym (firsts-none s d)
run-firsts s (suc n) d [] = ap (λ (ws : List Parts). firsts s (suc d) ws) (sym (below-nil n))
run-firsts s zero d (Plain text ∷ ts) = ap (λ t. text ++ t) (run-firsts s zero d ts) ∙ sym (firsts-plain s d text (levels ts))
run-firsts s zero d (Variable v ∷ ts) =
    ap (λ t. text_of (s v) ++ t) (run-firsts s zero d ts ∙ firsts-split s d (levels ts)) ∙ sym (append_assoc (text_of (s v)) (value s (innermost (levels ts))) (firsts s d (around (levels ts))))
run-firsts s zero d (Open o t v ∷ ts) =
    run-chosen (choice_of o (passes t (s v))) (text_of (s v)) (value s (innermost (levels ts))) (value s (innermost (around (levels ts)))) (firsts s d (around (around (levels ts)))) _ _
    (run-firsts s zero (suc d) ts ∙ firsts-split s (suc d) (levels ts) ∙ ap (λ u. value s (innermost (levels ts)) ++ u) (firsts-split s d (around (levels ts))))
    (run-firsts s 1 d ts ∙ firsts-split s d (around (levels ts)))
run-firsts s zero zero (Close ∷ ts) = refl
run-firsts s zero (suc d) (Close ∷ ts) = run-firsts s zero d ts
run-firsts s (suc n) d (Plain text ∷ ts) = run-firsts s (suc n) d ts ∙ sym (ap (λ (ws : List Parts). firsts s (suc d) (below n ws)) (around-plain text (levels ts)))
run-firsts s (suc n) d (Variable v ∷ ts) = run-firsts s (suc n) d ts
run-firsts s (suc n) d (Open o t v ∷ ts) = run-firsts s (suc (suc n)) d ts
run-firsts s (suc n) d (Close ∷ ts) = run-firsts s n d ts

-- tokens have the value of their word
run-value : (s : List ℕ → Option (List ℕ)) (ts : List Token) → run s 0 0 ts ≡ value s (word_of ts)
run-value s ts = run-firsts s 0 0 ts ∙ firsts-split s 0 (levels ts) ∙ append-nil (value s (word_of ts))

-- the value of the word after a `?`
abbrev text_at : (List ℕ → Option (List ℕ)) → Option (List Token) → Option (List ℕ)
text_at s found = option_map (λ (us : List Token). value s (word_of us)) found

first_of-assoc : (a b c : Option (List ℕ)) → first_of (first_of a b) c ≡ first_of a (first_of b c)
first_of-assoc None b c = refl
first_of-assoc (Some t) b c = refl

first_of-none : (a : Option (List ℕ)) → first_of a None ≡ a
first_of-none None = refl
first_of-none (Some t) = refl

first_of-some : (a : Option (List ℕ)) (t : List ℕ) → first_of a (Some t) ≡ Some (unwrap_or a t)
first_of-some None t = refl
first_of-some (Some u) t = refl

sought-chosen : (s : List ℕ → Option (List ℕ)) (choice : Choice) (inner rest more old : Option (List ℕ)) (text : List ℕ) (after word refusing : Option (List Token))
    → text_at s after ≡ first_of (first_of rest more) old → text_at s word ≡ first_of (first_of inner (first_of rest more)) old → text_at s refusing ≡ Some (unwrap_or inner text)
    → text_at s (sought_chosen choice after word refusing) ≡ first_of (first_of (first_of (chosen_refusal choice inner text) rest) more) old
sought-chosen s Own inner rest more old text after word refusing h i j = h
sought-chosen s Word inner rest more old text after word refusing h i j = i ∙ ap (λ o. first_of o old) (sym (first_of-assoc inner rest more))
sought-chosen s Nothing inner rest more old text after word refusing h i j = h
sought-chosen s Refusal inner rest more old text after word refusing h i j = j

sought-refusals : (s : List ℕ → Option (List ℕ)) (n d : ℕ) (found : Option (List Token)) (ts : List Token) → text_at s (sought s n d found ts) ≡ first_of (refusals s (suc d) (below n (levels ts))) (text_at s found)
sought-refusals s zero d found [] = ap (λ o. first_of o (text_at s found)) (sym (refusals-none s d))
sought-refusals s (suc n) d found [] = ap (λ (ws : List Parts). first_of (refusals s (suc d) ws) (text_at s found)) (sym (below-nil n))
sought-refusals s zero d found (Plain text ∷ ts) = sought-refusals s zero d found ts ∙ ap (λ o. first_of o (text_at s found)) (sym (refusals-plain s d text (levels ts)))
sought-refusals s zero d found (Variable v ∷ ts) = sought-refusals s zero d found ts ∙ ap (λ o. first_of o (text_at s found)) (refusals-split s d (levels ts))
sought-refusals s zero d found (Open o t v ∷ ts) =
    sought-chosen s (choice_of o (passes t (s v))) (refusal s (innermost (levels ts))) (refusal s (innermost (around (levels ts)))) (refusals s d (around (around (levels ts)))) (text_at s found) (value s (innermost (levels ts))) _ _ _
    (sought-refusals s 1 d found ts ∙ ap (λ u. first_of u (text_at s found)) (refusals-split s d (around (levels ts))))
    (sought-refusals s zero (suc d) found ts ∙ ap (λ u. first_of u (text_at s found)) (refusals-split s (suc d) (levels ts) ∙ ap (λ u. first_of (refusal s (innermost (levels ts))) u) (refusals-split s d (around (levels ts)))))
    (sought-refusals s zero zero (Some ts) ts ∙ ap (λ u. first_of u (Some (value s (word_of ts)))) (refusals-split s 0 (levels ts) ∙ first_of-none (refusal s (innermost (levels ts)))) ∙ first_of-some (refusal s (innermost (levels ts))) (value s (word_of ts)))
sought-refusals s zero zero found (Close ∷ ts) = refl
sought-refusals s zero (suc d) found (Close ∷ ts) = sought-refusals s zero d found ts
sought-refusals s (suc n) d found (Plain text ∷ ts) = sought-refusals s (suc n) d found ts ∙ sym (ap (λ (ws : List Parts). first_of (refusals s (suc d) (below n ws)) (text_at s found)) (around-plain text (levels ts)))
sought-refusals s (suc n) d found (Variable v ∷ ts) = sought-refusals s (suc n) d found ts
sought-refusals s (suc n) d found (Open o t v ∷ ts) = sought-refusals s (suc (suc n)) d found ts
sought-refusals s (suc n) d found (Close ∷ ts) = sought-refusals s n d found ts

-- tokens are refused with the text of the word that is sought
sought-refusal : (s : List ℕ → Option (List ℕ)) (ts : List Token) → text_at s (sought s 0 0 None ts) ≡ refusal s (word_of ts)
sought-refusal s ts = sought-refusals s 0 0 None ts ∙ first_of-none _ ∙ refusals-split s 0 (levels ts) ∙ first_of-none (refusal s (word_of ts))

-- what is chosen

within-lt : (l m : ℕ) → m ≤ l → nat_lt l m ≡ false
within-lt l m h = grind (arith, nat_tests)

past-lt : (l m : ℕ) → l < m → nat_lt l m ≡ true
past-lt l m h = grind (arith, nat_tests)

if_is : {X : Type 0} (b c : Bool) (x y : X) → b ≡ c → (if b then x else y) ≡ (if c then x else y)
if_is b c x y h = ap (λ d. if d then x else y) h

pub gives-within : (limit : ℕ) (text : List ℕ) (r : Result (List ℕ) (Fault Unexpanded)) → IsWithin limit text r → Gives (fault_of limit None text) text r
gives-within limit text (Ok found) h = (h.0, if_is _ _ _ _ (within-lt limit (length text) h.1))
gives-within limit text (Err (Because why)) h = if_is _ _ _ _ (past-lt limit (length text) h.1) ∙ ap (λ (u : Unexpanded). Some u) (sym h.0)
gives-within limit text (Err Memory) h = tt

pub gives-by : (limit : ℕ) (one other : Option (List ℕ)) (text more : List ℕ) (r : Result (List ℕ) (Fault Unexpanded)) → one ≡ other → text ≡ more → Gives (fault_of limit one text) text r → Gives (fault_of limit other more) more r
gives-by limit one other text more r h i g = subst (λ u. Gives (fault_of limit other u) u r) i (subst (λ o. Gives (fault_of limit o text) text r) h g)

-- nothing is sought
pub gives_value : (limit : ℕ) (s : List ℕ → Option (List ℕ)) (ts : List Token) (found : Option (List Token)) (r : Result (List ℕ) (Fault Unexpanded)) → found ≡ sought s 0 0 None ts → found ≡ None
    → IsWithin limit (run s 0 0 ts) r → Gives (fault_of limit (refusal s (word_of ts)) (value s (word_of ts))) (value s (word_of ts)) r
gives_value limit s ts found r h i k = gives-by limit None (refusal s (word_of ts)) (run s 0 0 ts) (value s (word_of ts)) r (ap (text_at s) (sym i ∙ h) ∙ sought-refusal s ts) (run-value s ts) (gives-within limit (run s 0 0 ts) r k)

refused-within : (limit : ℕ) (text : List ℕ) (value found : List ℕ) → found ≡ text → length text ≤ limit → fault_of limit (Some text) value ≡ Some (Required found)
refused-within limit text value found h i = if_is _ _ _ _ (within-lt limit (length text) i) ∙ ap (λ (u : List ℕ). Some (Required u)) (sym h)

refused-past : (limit : ℕ) (text : List ℕ) (value : List ℕ) → limit < length text → fault_of limit (Some text) value ≡ Some TooLong
refused-past limit text value i = if_is _ _ _ _ (past-lt limit (length text) i)

-- the text with which tokens are refused is that of the word that is sought
text_is : (s : List ℕ → Option (List ℕ)) (ts us : List Token) (found : Option (List Token)) → found ≡ sought s 0 0 None ts → found ≡ Some us → Some (run s 0 0 us) ≡ refusal s (word_of ts)
text_is s ts us found h i = ap (λ u. Some u) (run-value s us) ∙ ap (text_at s) (sym i ∙ h) ∙ sought-refusal s ts

pub refuses_text : (limit : ℕ) (s : List ℕ → Option (List ℕ)) (ts us : List Token) (found : Option (List Token)) (text : List ℕ) → found ≡ sought s 0 0 None ts → found ≡ Some us
    → IsWithin limit (run s 0 0 us) (Ok text) → fault_of limit (refusal s (word_of ts)) (value s (word_of ts)) ≡ Some (Required text)
refuses_text limit s ts us found text h i k =
    ap (λ o. fault_of limit o (value s (word_of ts))) (sym (text_is s ts us found h i)) ∙ refused-within limit (run s 0 0 us) (value s (word_of ts)) text k.0 k.1

pub refuses_long : (limit : ℕ) (s : List ℕ → Option (List ℕ)) (ts us : List Token) (found : Option (List Token)) (why : Unexpanded) → found ≡ sought s 0 0 None ts → found ≡ Some us
    → IsWithin limit (run s 0 0 us) (Err (Because why)) → fault_of limit (refusal s (word_of ts)) (value s (word_of ts)) ≡ Some why
refuses_long limit s ts us found why h i k =
    ap (λ o. fault_of limit o (value s (word_of ts))) (sym (text_is s ts us found h i)) ∙ refused-past limit (run s 0 0 us) (value s (word_of ts)) k.1 ∙ ap (λ (u : Unexpanded). Some u) (sym k.0)

pub most_text_bytes-is : 1048576 ≡ most_text_bytes
unfolding most_text_bytes
most_text_bytes-is = refl

pub gives_longest : (s : List ℕ → Option (List ℕ)) (ts : List Token) (w : Parts) (r : Result (List ℕ) (Fault Unexpanded)) → word_of ts ≡ w
    → Gives (fault_of 1048576 (refusal s (word_of ts)) (value s (word_of ts))) (value s (word_of ts)) r → Gives (unexpanded s w) (value s w) r
gives_longest s ts w r h g =
    subst (λ (u : Parts). Gives (fault_of most_text_bytes (refusal s u) (value s u)) (value s u) r) h
    (subst (λ l. Gives (fault_of l (refusal s (word_of ts)) (value s (word_of ts))) (value s (word_of ts)) r) most_text_bytes-is g)

-- the same of what a call finds, which is read off it

pub gives_unsought : {R : Type 0} (limit : ℕ) (s : List ℕ → Option (List ℕ)) (ts : List Token) (f : R → List Token) (o : Option R) (r : Result (List ℕ) (Fault Unexpanded)) → option_map f o ≡ sought s 0 0 None ts → o ≡ None
    → IsWithin limit (run s 0 0 ts) r → Gives (fault_of limit (refusal s (word_of ts)) (value s (word_of ts))) (value s (word_of ts)) r
gives_unsought limit s ts f o r h i k = gives_value limit s ts (option_map f o) r h (ap (option_map f) i) k

pub refuses_found : {R : Type 0} (limit : ℕ) (s : List ℕ → Option (List ℕ)) (ts : List Token) (f : R → List Token) (o : Option R) (us : R) (r : Result (List ℕ) (Fault Unexpanded)) (text : List ℕ) → option_map f o ≡ sought s 0 0 None ts → o ≡ Some us
    → r ≡ Ok text → IsWithin limit (run s 0 0 (f us)) r → fault_of limit (refusal s (word_of ts)) (value s (word_of ts)) ≡ Some (Required text)
refuses_found limit s ts f o us r text h i j k = refuses_text limit s ts (f us) (option_map f o) text h (ap (option_map f) i) (subst (λ (q : Result (List ℕ) (Fault Unexpanded)). IsWithin limit (run s 0 0 (f us)) q) j k)

refuses_by : (limit : ℕ) (s : List ℕ → Option (List ℕ)) (ts us : List Token) (found : Option (List Token)) (fault : Fault Unexpanded) → found ≡ sought s 0 0 None ts → found ≡ Some us
    → IsWithin limit (run s 0 0 us) (Err fault) → Gives (fault_of limit (refusal s (word_of ts)) (value s (word_of ts))) (value s (word_of ts)) (Err fault)
refuses_by limit s ts us found (Because why) h i k = refuses_long limit s ts us found why h i k
refuses_by limit s ts us found Memory h i k = tt

pub refuses_fault : {R : Type 0} (limit : ℕ) (s : List ℕ → Option (List ℕ)) (ts : List Token) (f : R → List Token) (o : Option R) (us : R) (r : Result (List ℕ) (Fault Unexpanded)) (fault : Fault Unexpanded) → option_map f o ≡ sought s 0 0 None ts → o ≡ Some us
    → r ≡ Err fault → IsWithin limit (run s 0 0 (f us)) r → Gives (fault_of limit (refusal s (word_of ts)) (value s (word_of ts))) (value s (word_of ts)) (Err fault)
refuses_fault limit s ts f o us r fault h i j k = refuses_by limit s ts (f us) (option_map f o) fault h (ap (option_map f) i) (subst (λ (q : Result (List ℕ) (Fault Unexpanded)). IsWithin limit (run s 0 0 (f us)) q) j k)
