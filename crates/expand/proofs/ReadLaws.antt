-- Laws of the grammar: marked characters are read as just one list of pieces, or none.
use Rattle.std.specs.Prelude.{◌≡◌, ℕ, zero, suc, ◌==◌, ◌&&◌, nat_le, nat_lt, Bool, true, false, List, [], ◌∷◌, ◌++◌, if◌then◌else◌, Option, Some, None, option_map, ◌⊎◌, refl}
use Rattle.std.proofs.Common.{inl, inr, sym, ◌∙◌, ap, subst, append_assoc, append-nil, arith}
use Rattle.std.proofs.lemmas.Bool.{true≢false}
use Rattle.std.proofs.lemmas.Bool.Decides.{nat_tests}
use Rattle.ascii.specs.Names.{begins_name, is_in_name, are_in_name, is_name}
use Rattle.expand.specs.Syntax.{active, sign_text, operator_text, goes_on, IsDollarAlone, StandsForItself, MayNest}
use Rattle.expand.specs.PrivatePieces.{Piece, itself, bare, braced, opening, close}
use Rattle.expand.proofs.PieceForms.{piece_text, written, AllStand}
use Rattle.expand.specs.PrivateReading.{sign_at, sign_of, code_point, Step, bad, on, behind, step_close, step_at, step_after_dollar, step_in_name, step_open, step, ended_at_end, pieces_from, pieces}
use Rattle.expand.specs.declared.character.Character.{Character}
use Rattle.expand.specs.declared.character.Character.TheVariants.{Active, Literal}
use Rattle.expand.specs.declared.character.Sign.{Sign}
use Rattle.expand.specs.declared.character.Sign.TheVariants.{Dollar, OpenBrace, CloseBrace, Colon, Dash, Plus, Question, Letter, Digit, Other}
use Rattle.expand.specs.declared.operator.Operator.{Operator}
use Rattle.expand.specs.declared.operator.Operator.TheVariants.{Default, Alternative, Required}
use Rattle.expand.specs.declared.operator.Test.{Test}
use Rattle.expand.specs.declared.operator.Test.TheVariants.{IsSet, IsFilled}
use Rattle.expand.specs.declared.state.Begun.{Begun}
use Rattle.expand.specs.declared.state.Begun.TheVariants.{Nothing, AfterDollar, InName, AfterBrace, InBracedName, AfterColon}

eqb_equal : (a b : ℕ) → (a == b) ≡ true → a ≡ b
eqb_equal a b h = grind (arith, nat_tests)

-- what a sign says of its character

-- it is none of those that end or open something
abbrev IsQuiet : ℕ → Type 0
IsQuiet c = ((c == 36) ≡ false) × ((c == 125) ≡ false) × ((c == 123) ≡ false)

abbrev IsLetter : ℕ → Type 0
IsLetter c = (begins_name c ≡ true) × (is_in_name c ≡ true) × IsQuiet c

abbrev IsDigit : ℕ → Type 0
IsDigit c = (begins_name c ≡ false) × (is_in_name c ≡ true) × IsQuiet c

abbrev IsOther : ℕ → Type 0
IsOther c = (begins_name c ≡ false) × (is_in_name c ≡ false) × IsQuiet c

abbrev SignIs : Sign → Character → Type 0
SignIs Dollar (Active c) = c ≡ 36
SignIs OpenBrace (Active c) = c ≡ 123
SignIs CloseBrace (Active c) = c ≡ 125
SignIs Colon (Active c) = c ≡ 58
SignIs Dash (Active c) = c ≡ 45
SignIs Plus (Active c) = c ≡ 43
SignIs Question (Active c) = c ≡ 63
SignIs Letter (Active c) = IsLetter c
SignIs Digit (Active c) = IsDigit c
SignIs Other (Active c) = IsOther c
SignIs Other (Literal c) = Unit {0}
SignIs _ (Literal c) = ⊥

letter_goes_on : (c : ℕ) → begins_name c ≡ true → is_in_name c ≡ true
letter_goes_on c h = grind (arith, nat_tests)

goes_on_by : (c : ℕ) (d : Bool) → begins_name c ≡ false → (nat_le 48 c && nat_le c 57) ≡ d → is_in_name c ≡ d
goes_on_by c true h i = grind (arith, nat_tests)
goes_on_by c false h i = grind (arith, nat_tests)

sign_by : (c : ℕ) (m o e n d p q l g : Bool) → (c == 36) ≡ m → (c == 123) ≡ o → (c == 125) ≡ e → (c == 58) ≡ n → (c == 45) ≡ d → (c == 43) ≡ p → (c == 63) ≡ q → begins_name c ≡ l → (nat_le 48 c && nat_le c 57) ≡ g
    → SignIs (if m then Dollar else (if o then OpenBrace else (if e then CloseBrace else (if n then Colon else (if d then Dash else (if p then Plus else (if q then Question else (if l then Letter else (if g then Digit else Other))))))))) (Active c)
sign_by c true o e n d p q l g hm ho he hn hd hp hq hl hg = eqb_equal c 36 hm
sign_by c false true e n d p q l g hm ho he hn hd hp hq hl hg = eqb_equal c 123 ho
sign_by c false false true n d p q l g hm ho he hn hd hp hq hl hg = eqb_equal c 125 he
sign_by c false false false true d p q l g hm ho he hn hd hp hq hl hg = eqb_equal c 58 hn
sign_by c false false false false true p q l g hm ho he hn hd hp hq hl hg = eqb_equal c 45 hd
sign_by c false false false false false true q l g hm ho he hn hd hp hq hl hg = eqb_equal c 43 hp
sign_by c false false false false false false true l g hm ho he hn hd hp hq hl hg = eqb_equal c 63 hq
sign_by c false false false false false false false true g hm ho he hn hd hp hq hl hg = (hl, letter_goes_on c hl, (hm, he, ho))
sign_by c false false false false false false false false true hm ho he hn hd hp hq hl hg = (hl, goes_on_by c true hl hg, (hm, he, ho))
sign_by c false false false false false false false false false hm ho he hn hd hp hq hl hg = (hl, goes_on_by c false hl hg, (hm, he, ho))

sign_is : (c : Character) → SignIs (sign_of c) c
unfolding sign_at
sign_is (Active c) = sign_by c (c == 36) (c == 123) (c == 125) (c == 58) (c == 45) (c == 43) (c == 63) (begins_name c) (nat_le 48 c && nat_le c 57) refl refl refl refl refl refl refl refl refl
sign_is (Literal c) = tt

-- a step, and what follows it
abbrev taken : Step → List Character → Option (List Piece)
taken s cs = if s.is_bad then None else option_map (λ ps. s.ended ++ ps) (pieces_from s.depth s.begun cs)

pieces_from-at : (n : ℕ) (b : Begun) (c : Character) (cs : List Character) (k : Sign) → sign_of c ≡ k → pieces_from n b (c ∷ cs) ≡ taken (step n b k c) cs
pieces_from-at n b c cs k h = ap (λ (j : Sign). taken (step n b j c) cs) h

map_same : (o : Option (List Piece)) → option_map (λ (ps : List Piece). ps) o ≡ o
map_same None = refl
map_same (Some ps) = refl

taken_by : (b : Bool) (p : Piece) (es : List Piece) (o : Option (List Piece))
    → (if b then None else option_map (λ (ps : List Piece). (p ∷ es) ++ ps) o) ≡ option_map (λ (ps : List Piece). p ∷ ps) (if b then None else option_map (λ (ps : List Piece). es ++ ps) o)
taken_by true p es o = refl
taken_by false p es None = refl
taken_by false p es (Some ps) = refl

taken-behind : (p : Piece) (s : Step) (cs : List Character) → taken (behind p s) cs ≡ option_map (λ (ps : List Piece). p ∷ ps) (taken s cs)
taken-behind p s cs = taken_by s.is_bad p s.ended (pieces_from s.depth s.begun cs)

taken-on : (n : ℕ) (b : Begun) (cs : List Character) → taken (on [] n b) cs ≡ pieces_from n b cs
taken-on n b cs = map_same (pieces_from n b cs)

-- reading gives pieces that stand and are written as the characters

-- what was begun, as it is written
abbrev begun_text : Begun → List Character
begun_text Nothing = []
begun_text AfterDollar = Active 36 ∷ []
begun_text (InName v) = Active 36 ∷ active v
begun_text AfterBrace = Active 36 ∷ Active 123 ∷ []
begun_text (InBracedName v) = Active 36 ∷ Active 123 ∷ active v
begun_text (AfterColon v) = Active 36 ∷ Active 123 ∷ (active v ++ Active 58 ∷ [])

abbrev IsSound : ℕ → Begun → Type 0
IsSound n Nothing = Unit {0}
IsSound n AfterDollar = Unit {0}
IsSound n (InName v) = is_name v ≡ true
IsSound n AfterBrace = MayNest n
IsSound n (InBracedName v) = (is_name v ≡ true) × MayNest n
IsSound n (AfterColon v) = (is_name v ≡ true) × MayNest n

-- what is read, if anything, stands and is written so
abbrev pub IsGood : ℕ → List Character → Option (List Piece) → Type 0
IsGood n text None = Unit {0}
IsGood n text (Some ps) = AllStand n ps × (text ≡ written ps)

good_text : (n : ℕ) (text other : List Character) (o : Option (List Piece)) → text ≡ other → IsGood n text o → IsGood n other o
good_text n text other o h g = subst (λ (t : List Character). IsGood n t o) h g

good_same : (n : ℕ) (text : List Character) (o u : Option (List Piece)) → o ≡ u → IsGood n text o → IsGood n text u
good_same n text o u h g = subst (λ (v : Option (List Piece)). IsGood n text v) h g

-- one more piece, which may stand before what is read
good_more : (n m : ℕ) (p : Piece) (text : List Character) (o : Option (List Piece))
    → ((ps : List Piece) → AllStand m ps → text ≡ written ps → AllStand n (p ∷ ps)) → IsGood m text o → IsGood n (piece_text p ++ text) (option_map (λ (ps : List Piece). p ∷ ps) o)
good_more n m p text None h g = tt
good_more n m p text (Some ps) h g = (h ps g.0 g.1, ap (λ (t : List Character). piece_text p ++ t) g.1)

good_itself : (n : ℕ) (c : Character) (text : List Character) (o : Option (List Piece)) → StandsForItself n c text → IsGood n text o → IsGood n (c ∷ text) (option_map (λ (ps : List Piece). itself c ∷ ps) o)
good_itself n c text o h g = good_more n n (itself c) text o (λ ps i j. (subst (λ (t : List Character). StandsForItself n c t) j h, i)) g

good_bare : (n : ℕ) (v : List ℕ) (text : List Character) (o : Option (List Piece)) → is_name v ≡ true → goes_on text ≡ false → IsGood n text o → IsGood n (Active 36 ∷ (active v ++ text)) (option_map (λ (ps : List Piece). bare v ∷ ps) o)
good_bare n v text o h i g = good_more n n (bare v) text o (λ ps j k. (h, sym (ap goes_on k) ∙ i, j)) g

abbrev Follows : List Character → Type 0
Follows cs = (m : ℕ) (b : Begun) → IsSound m b → IsGood m (begun_text b ++ cs) (pieces_from m b cs)

eqb_self : (c : ℕ) → (c == c) ≡ true
eqb_self c = grind (arith, nat_tests)

unequal : (c d : ℕ) → (c == d) ≡ false → c ≡ d → ⊥
unequal c d h i = absurd (true≢false (sym (eqb_self d) ∙ sym (ap (λ x. x == d) i) ∙ h))

quiet_stands : (n c : ℕ) (behind : List Character) → IsQuiet c → StandsForItself n (Active c) behind
quiet_stands n c behind q = (λ h. absurd (unequal c 36 q.0 h), λ h. absurd (unequal c 125 q.1 h))

-- a character that is known stands for itself, if it is neither `$` nor `}`
known_stands : (n c d : ℕ) (behind : List Character) → c ≡ d → (d == 36) ≡ false → (d == 125) ≡ false → StandsForItself n (Active c) behind
known_stands n c d behind e h i = (λ j. absurd (unequal d 36 h (sym e ∙ j)), λ j. absurd (unequal d 125 i (sym e ∙ j)))

-- signs of characters that stand for themselves wherever nothing is begun
abbrev is_quiet : Sign → Bool
is_quiet Dollar = false
is_quiet CloseBrace = false
is_quiet _ = true

sign_stands : (n : ℕ) (c : Character) (behind : List Character) (k : Sign) → is_quiet k ≡ true → SignIs k c → StandsForItself n c behind
sign_stands n (Active c) behind Dollar q h = absurd (true≢false (sym q))
sign_stands n (Active c) behind CloseBrace q h = absurd (true≢false (sym q))
sign_stands n (Active c) behind Letter q h = quiet_stands n c behind h.2
sign_stands n (Active c) behind Digit q h = quiet_stands n c behind h.2
sign_stands n (Active c) behind Other q h = quiet_stands n c behind h.2
sign_stands n (Active c) behind _ q h = known_stands n c _ behind h refl refl
sign_stands n (Literal c) behind Other q h = tt
sign_stands n (Literal c) behind _ q h = absurd h

-- signs of characters that begin something behind a `$`
abbrev starts : Sign → Bool
starts OpenBrace = true
starts Letter = true
starts _ = false

known_alone : (c d : ℕ) → c ≡ d → begins_name d ≡ false → (d == 123) ≡ false → (begins_name c ≡ false) × ((c == 123) ≡ false)
known_alone c d e h i = (ap begins_name e ∙ h, ap (λ x. x == 123) e ∙ i)

is_alone : (c : Character) (cs : List Character) (k : Sign) → starts k ≡ false → SignIs k c → IsDollarAlone (c ∷ cs)
is_alone (Active c) cs OpenBrace s h = absurd (true≢false s)
is_alone (Active c) cs Letter s h = absurd (true≢false s)
is_alone (Active c) cs Digit s h = (h.0, h.2.2)
is_alone (Active c) cs Other s h = (h.0, h.2.2)
is_alone (Active c) cs _ s h = known_alone c _ h refl refl
is_alone (Literal c) cs Other s h = tt
is_alone (Literal c) cs _ s h = absurd h

-- signs of characters that a name goes on with
abbrev names : Sign → Bool
names Letter = true
names Digit = true
names _ = false

goes_on-is : (c : Character) (cs : List Character) (k : Sign) → SignIs k c → goes_on (c ∷ cs) ≡ names k
goes_on-is (Active c) cs Letter h = h.1
goes_on-is (Active c) cs Digit h = h.1
goes_on-is (Active c) cs Other h = h.1
goes_on-is (Active c) cs _ h = ap is_in_name h
goes_on-is (Literal c) cs Other h = refl
goes_on-is (Literal c) cs _ h = absurd h

-- the character that is known by its sign

Dollar_is : (c : Character) → SignIs Dollar c → c ≡ Active 36
Dollar_is (Active c) h = ap (λ x. Active x) h
Dollar_is (Literal c) h = absurd h

OpenBrace_is : (c : Character) → SignIs OpenBrace c → c ≡ Active 123
OpenBrace_is (Active c) h = ap (λ x. Active x) h
OpenBrace_is (Literal c) h = absurd h

CloseBrace_is : (c : Character) → SignIs CloseBrace c → c ≡ Active 125
CloseBrace_is (Active c) h = ap (λ x. Active x) h
CloseBrace_is (Literal c) h = absurd h

Colon_is : (c : Character) → SignIs Colon c → c ≡ Active 58
Colon_is (Active c) h = ap (λ x. Active x) h
Colon_is (Literal c) h = absurd h

Dash_is : (c : Character) → SignIs Dash c → c ≡ Active 45
Dash_is (Active c) h = ap (λ x. Active x) h
Dash_is (Literal c) h = absurd h

Plus_is : (c : Character) → SignIs Plus c → c ≡ Active 43
Plus_is (Active c) h = ap (λ x. Active x) h
Plus_is (Literal c) h = absurd h

Question_is : (c : Character) → SignIs Question c → c ≡ Active 63
Question_is (Active c) h = ap (λ x. Active x) h
Question_is (Literal c) h = absurd h

Letter_is : (c : Character) → SignIs Letter c → (c ≡ Active (code_point c)) × (is_in_name (code_point c) ≡ true)
Letter_is (Active c) h = (refl, h.1)
Letter_is (Literal c) h = absurd h

Digit_is : (c : Character) → SignIs Digit c → (c ≡ Active (code_point c)) × (is_in_name (code_point c) ≡ true)
Digit_is (Active c) h = (refl, h.1)
Digit_is (Literal c) h = absurd h

begins_by : (c : Character) → SignIs Letter c → begins_name (code_point c) ≡ true
begins_by (Active c) h = h.0
begins_by (Literal c) h = absurd h

-- names

if_name : (t u : Bool) → t ≡ true → (if t then u else false) ≡ u
if_name t u h = ap (λ (b : Bool). if b then u else false) h

name_of_one : (c : ℕ) → begins_name c ≡ true → is_name (c ∷ []) ≡ true
name_of_one c h = if_name (begins_name c) true h

more_by : (t u v : Bool) → (if t then u else false) ≡ true → (u ≡ true → v ≡ true) → (if t then v else false) ≡ true
more_by true u v h i = i h
more_by false u v h i = h

are_in_name-more : (cs : List ℕ) (c : ℕ) → are_in_name cs ≡ true → is_in_name c ≡ true → are_in_name (cs ++ c ∷ []) ≡ true
are_in_name-more [] c h i = if_name (is_in_name c) true i
are_in_name-more (d ∷ ds) c h i = more_by (is_in_name d) (are_in_name ds) (are_in_name (ds ++ c ∷ [])) h (λ j. are_in_name-more ds c j i)

is_name-more : (v : List ℕ) (c : ℕ) → is_name v ≡ true → is_in_name c ≡ true → is_name (v ++ c ∷ []) ≡ true
is_name-more [] c h i = absurd (true≢false (sym h))
is_name-more (d ∷ ds) c h i = more_by (begins_name d) (are_in_name ds) (are_in_name (ds ++ c ∷ [])) h (λ j. are_in_name-more ds c j i)

active-append : (us vs : List ℕ) → active (us ++ vs) ≡ active us ++ active vs
active-append [] vs = refl
active-append (u ∷ us) vs = ap (λ (t : List Character). Active u ∷ t) (active-append us vs)

-- behind a name so far, one more of its characters
name_more : (v : List ℕ) (c : Character) (cs : List Character) → c ≡ Active (code_point c) → active (v ++ code_point c ∷ []) ++ cs ≡ active v ++ (c ∷ cs)
name_more v c cs h = ap (λ (t : List Character). t ++ cs) (active-append v (code_point c ∷ [])) ∙ append_assoc (active v) (Active (code_point c) ∷ []) cs ∙ ap (λ (d : Character). active v ++ (d ∷ cs)) (sym h)

nest_by : (n : ℕ) (b : Bool) → nat_lt n 32 ≡ b → (text cs : List Character) → (MayNest n → IsGood n text (taken (on [] n AfterBrace) cs)) → IsGood n text (taken (if b then on [] n AfterBrace else bad) cs)
nest_by n true h text cs g = g (grind (arith, nat_tests))
nest_by n false h text cs g = tt

-- one more character

close_good : (n : ℕ) (c : Character) (cs : List Character) → SignIs CloseBrace c → Follows cs → IsGood n (c ∷ cs) (taken (step_close n c) cs)
close_good zero c cs h f =
    good_itself zero c cs _ (subst (λ (d : Character). StandsForItself zero d cs) (sym (CloseBrace_is c h)) (λ i. absurd (unequal 125 36 refl i), λ i. refl)) (f zero Nothing tt)
close_good (suc n) c cs h f =
    good_text (suc n) _ _ _ (ap (λ (d : Character). d ∷ cs) (sym (CloseBrace_is c h))) (good_more (suc n) n close cs _ (λ ps i j. i) (f n Nothing tt))

at_good : (n : ℕ) (c : Character) (cs : List Character) (k : Sign) → SignIs k c → Follows cs → IsGood n (c ∷ cs) (taken (step_at n k c) cs)
at_good n c cs Dollar h f = good_same n _ _ _ (sym (taken-on n AfterDollar cs)) (good_text n _ _ _ (ap (λ (d : Character). d ∷ cs) (sym (Dollar_is c h))) (f n AfterDollar tt))
at_good n c cs CloseBrace h f = close_good n c cs h f
at_good n c cs k h f = good_itself n c cs _ (sign_stands n c cs k refl h) (f n Nothing tt)

alone_good : (n : ℕ) (c : Character) (cs : List Character) (k : Sign) → starts k ≡ false → SignIs k c → Follows cs → IsGood n (Active 36 ∷ c ∷ cs) (taken (behind (itself (Active 36)) (step_at n k c)) cs)
alone_good n c cs k s h f =
    good_same n _ _ _ (sym (taken-behind (itself (Active 36)) (step_at n k c) cs))
    (good_itself n (Active 36) (c ∷ cs) _ (λ i. is_alone c cs k s h, λ i. absurd (unequal 36 125 refl i)) (at_good n c cs k h f))

ended_good : (n : ℕ) (v : List ℕ) (c : Character) (cs : List Character) (k : Sign) → is_name v ≡ true → names k ≡ false → SignIs k c → Follows cs → IsGood n (Active 36 ∷ (active v ++ (c ∷ cs))) (taken (behind (bare v) (step_at n k c)) cs)
ended_good n v c cs k i s h f =
    good_same n _ _ _ (sym (taken-behind (bare v) (step_at n k c) cs))
    (good_bare n v (c ∷ cs) _ i (goes_on-is c cs k h ∙ s) (at_good n c cs k h f))

braced_text : (v : List ℕ) (cs : List Character) → piece_text (braced v) ++ cs ≡ Active 36 ∷ Active 123 ∷ (active v ++ (Active 125 ∷ cs))
braced_text v cs = ap (λ (t : List Character). Active 36 ∷ Active 123 ∷ t) (append_assoc (active v) (Active 125 ∷ []) cs)

set_text : (o : Operator) (v : List ℕ) (c : Character) (cs : List Character) → c ≡ Active (sign_text o) → piece_text (opening o IsSet v) ++ cs ≡ Active 36 ∷ Active 123 ∷ (active v ++ (c ∷ cs))
set_text o v c cs h = ap (λ (t : List Character). Active 36 ∷ Active 123 ∷ t) (append_assoc (active v) (Active (sign_text o) ∷ []) cs ∙ ap (λ (d : Character). active v ++ (d ∷ cs)) (sym h))

filled_text : (o : Operator) (v : List ℕ) (c : Character) (cs : List Character) → c ≡ Active (sign_text o) → piece_text (opening o IsFilled v) ++ cs ≡ Active 36 ∷ Active 123 ∷ ((active v ++ Active 58 ∷ []) ++ (c ∷ cs))
filled_text o v c cs h =
    ap (λ (t : List Character). Active 36 ∷ Active 123 ∷ t)
    (append_assoc (active v) (Active 58 ∷ Active (sign_text o) ∷ []) cs ∙ sym (append_assoc (active v) (Active 58 ∷ []) (Active (sign_text o) ∷ cs)) ∙ ap (λ (d : Character). (active v ++ Active 58 ∷ []) ++ (d ∷ cs)) (sym h))

open_good : (n : ℕ) (o : Operator) (t : Test) (v : List ℕ) (cs front : List Character) → piece_text (opening o t v) ++ cs ≡ front → (is_name v ≡ true) × MayNest n → Follows cs → IsGood n front (taken (step_open o t v n) cs)
open_good n o t v cs front e i f = good_text n _ _ _ e (good_more n (suc n) (opening o t v) cs _ (λ ps j k. (i.0, i.1, j)) (f (suc n) Nothing tt))

step_good : (n : ℕ) (b : Begun) (c : Character) (cs : List Character) (k : Sign) → SignIs k c → IsSound n b → Follows cs → IsGood n (begun_text b ++ (c ∷ cs)) (taken (step n b k c) cs)
step_good n Nothing c cs Dollar h i f = at_good n c cs Dollar h f
step_good n Nothing c cs k h i f = at_good n c cs k h f
step_good n AfterDollar c cs OpenBrace h i f = nest_by n (nat_lt n 32) refl _ cs (λ j. good_same n _ _ _ (sym (taken-on n AfterBrace cs)) (good_text n _ _ _ (ap (λ (d : Character). Active 36 ∷ d ∷ cs) (sym (OpenBrace_is c h))) (f n AfterBrace j)))
step_good n AfterDollar c cs Letter h i f = good_same n _ _ _ (sym (taken-on n (InName (code_point c ∷ [])) cs)) (good_text n _ _ _ (ap (λ (d : Character). Active 36 ∷ d ∷ cs) (sym (Letter_is c h).0)) (f n (InName (code_point c ∷ [])) (name_of_one (code_point c) (begins_by c h))))
step_good n AfterDollar c cs k h i f = alone_good n c cs k refl h f
step_good n (InName v) c cs Letter h i f = good_same n _ _ _ (sym (taken-on n (InName (v ++ code_point c ∷ [])) cs)) (good_text n _ _ _ (ap (λ (t : List Character). Active 36 ∷ t) (name_more v c cs (Letter_is c h).0)) (f n (InName (v ++ code_point c ∷ [])) (is_name-more v (code_point c) i (Letter_is c h).1)))
step_good n (InName v) c cs Digit h i f = good_same n _ _ _ (sym (taken-on n (InName (v ++ code_point c ∷ [])) cs)) (good_text n _ _ _ (ap (λ (t : List Character). Active 36 ∷ t) (name_more v c cs (Digit_is c h).0)) (f n (InName (v ++ code_point c ∷ [])) (is_name-more v (code_point c) i (Digit_is c h).1)))
step_good n (InName v) c cs k h i f = ended_good n v c cs k i refl h f
step_good n AfterBrace c cs Letter h i f = good_same n _ _ _ (sym (taken-on n (InBracedName (code_point c ∷ [])) cs)) (good_text n _ _ _ (ap (λ (d : Character). Active 36 ∷ Active 123 ∷ d ∷ cs) (sym (Letter_is c h).0)) (f n (InBracedName (code_point c ∷ [])) (name_of_one (code_point c) (begins_by c h), i)))
step_good n AfterBrace c cs _ h i f = tt
step_good n (InBracedName v) c cs CloseBrace h i f = good_text n _ _ _ (braced_text v cs ∙ ap (λ (d : Character). Active 36 ∷ Active 123 ∷ (active v ++ (d ∷ cs))) (sym (CloseBrace_is c h))) (good_more n n (braced v) cs _ (λ ps j k. (i.0, i.1, j)) (f n Nothing tt))
step_good n (InBracedName v) c cs Colon h i f = good_same n _ _ _ (sym (taken-on n (AfterColon v) cs)) (good_text n _ _ _ (ap (λ (t : List Character). Active 36 ∷ Active 123 ∷ t) (append_assoc (active v) (Active 58 ∷ []) cs ∙ ap (λ (d : Character). active v ++ (d ∷ cs)) (sym (Colon_is c h)))) (f n (AfterColon v) i))
step_good n (InBracedName v) c cs Letter h i f = good_same n _ _ _ (sym (taken-on n (InBracedName (v ++ code_point c ∷ [])) cs)) (good_text n _ _ _ (ap (λ (t : List Character). Active 36 ∷ Active 123 ∷ t) (name_more v c cs (Letter_is c h).0)) (f n (InBracedName (v ++ code_point c ∷ [])) (is_name-more v (code_point c) i.0 (Letter_is c h).1, i.1)))
step_good n (InBracedName v) c cs Digit h i f = good_same n _ _ _ (sym (taken-on n (InBracedName (v ++ code_point c ∷ [])) cs)) (good_text n _ _ _ (ap (λ (t : List Character). Active 36 ∷ Active 123 ∷ t) (name_more v c cs (Digit_is c h).0)) (f n (InBracedName (v ++ code_point c ∷ [])) (is_name-more v (code_point c) i.0 (Digit_is c h).1, i.1)))
step_good n (InBracedName v) c cs Dash h i f = open_good n Default IsSet v cs _ (set_text Default v c cs (Dash_is c h)) i f
step_good n (InBracedName v) c cs Plus h i f = open_good n Alternative IsSet v cs _ (set_text Alternative v c cs (Plus_is c h)) i f
step_good n (InBracedName v) c cs Question h i f = open_good n Required IsSet v cs _ (set_text Required v c cs (Question_is c h)) i f
step_good n (InBracedName v) c cs _ h i f = tt
step_good n (AfterColon v) c cs Dash h i f = open_good n Default IsFilled v cs _ (filled_text Default v c cs (Dash_is c h)) i f
step_good n (AfterColon v) c cs Plus h i f = open_good n Alternative IsFilled v cs _ (filled_text Alternative v c cs (Plus_is c h)) i f
step_good n (AfterColon v) c cs Question h i f = open_good n Required IsFilled v cs _ (filled_text Required v c cs (Question_is c h)) i f
step_good n (AfterColon v) c cs _ h i f = tt

end_good : (n : ℕ) (b : Begun) → IsSound n b → IsGood n (begun_text b ++ []) (ended_at_end n b)
end_good zero Nothing i = (refl, refl)
end_good zero AfterDollar i = (((λ _. tt, λ h. absurd (unequal 36 125 refl h)), refl), refl)
end_good zero (InName v) i = ((i, refl, refl), refl)
end_good zero AfterBrace i = tt
end_good zero (InBracedName v) i = tt
end_good zero (AfterColon v) i = tt
end_good (suc n) b i = tt

all_good : (n : ℕ) (b : Begun) (cs : List Character) → IsSound n b → IsGood n (begun_text b ++ cs) (pieces_from n b cs)
all_good n b [] i = end_good n b i
all_good n b (c ∷ cs) i = step_good n b c cs (sign_of c) (sign_is c) i (λ m d j. all_good m d cs j)

pub pieces-good : (cs : List Character) → IsGood 0 cs (pieces cs)
unfolding pieces
pieces-good cs = all_good 0 Nothing cs tt

stand_by : (cs : List Character) (o : Option (List Piece)) (ps : List Piece) → IsGood 0 cs o → o ≡ Some ps → AllStand 0 ps
stand_by cs None ps g h = absurd (cc)
stand_by cs (Some qs) ps g h = let same : qs ≡ ps = cc in subst (λ (rs : List Piece). AllStand 0 rs) same g.0

pub pieces-stand : (cs : List Character) (ps : List Piece) → pieces cs ≡ Some ps → AllStand 0 ps
pieces-stand cs ps h = stand_by cs (pieces cs) ps (pieces-good cs) h

-- and reading what pieces are written as gives them back

sign-36 : sign_of (Active 36) ≡ Dollar
unfolding sign_at
sign-36 = refl

sign-123 : sign_of (Active 123) ≡ OpenBrace
unfolding sign_at
sign-123 = refl

sign-125 : sign_of (Active 125) ≡ CloseBrace
unfolding sign_at
sign-125 = refl

sign-58 : sign_of (Active 58) ≡ Colon
unfolding sign_at
sign-58 = refl

sign-45 : sign_of (Active 45) ≡ Dash
unfolding sign_at
sign-45 = refl

sign-43 : sign_of (Active 43) ≡ Plus
unfolding sign_at
sign-43 = refl

sign-63 : sign_of (Active 63) ≡ Question
unfolding sign_at
sign-63 = refl

sign_letter : (c : ℕ) → begins_name c ≡ true → (k : Sign) → SignIs k (Active c) → k ≡ Letter
sign_letter c h Letter i = refl
sign_letter c h Digit i = absurd (true≢false (sym h ∙ i.0))
sign_letter c h Other i = absurd (true≢false (sym h ∙ i.0))
sign_letter c h _ i = absurd (true≢false (sym h ∙ ap begins_name i))

sign_named : (c : ℕ) → is_in_name c ≡ true → (k : Sign) → SignIs k (Active c) → (k ≡ Letter) ⊎ (k ≡ Digit)
sign_named c h Letter i = inl refl
sign_named c h Digit i = inr refl
sign_named c h Other i = absurd (true≢false (sym h ∙ i.1))
sign_named c h _ i = absurd (true≢false (sym h ∙ ap is_in_name i))

alone_started : (c : Character) (cs : List Character) (k : Sign) → SignIs k c → IsDollarAlone (c ∷ cs) → starts k ≡ false
alone_started (Active c) cs OpenBrace h i = absurd (true≢false (sym (ap (λ x. x == 123) h) ∙ i.1))
alone_started (Active c) cs Letter h i = absurd (true≢false (sym h.0 ∙ i.0))
alone_started (Literal c) cs OpenBrace h i = absurd h
alone_started (Literal c) cs Letter h i = absurd h
alone_started _ cs _ h i = refl

started_by : (n : ℕ) (c : Character) (cs : List Character) (k : Sign) → starts k ≡ false → taken (step_after_dollar n k c) cs ≡ option_map (λ (ps : List Piece). itself (Active 36) ∷ ps) (taken (step_at n k c) cs)
started_by n c cs OpenBrace s = absurd (true≢false s)
started_by n c cs Letter s = absurd (true≢false s)
started_by n c cs k s = taken-behind (itself (Active 36)) (step_at n k c) cs

ended_started : (n : ℕ) → ended_at_end n AfterDollar ≡ option_map (λ (ps : List Piece). itself (Active 36) ∷ ps) (ended_at_end n Nothing)
ended_started zero = refl
ended_started (suc n) = refl

started_alone : (n : ℕ) (cs : List Character) → IsDollarAlone cs → pieces_from n AfterDollar cs ≡ option_map (λ (ps : List Piece). itself (Active 36) ∷ ps) (pieces_from n Nothing cs)
started_alone n [] h = ended_started n
started_alone n (c ∷ cs) h = started_by n c cs (sign_of c) (alone_started c cs (sign_of c) (sign_is c) h)

bare_by : (n : ℕ) (v : List ℕ) (c : Character) (cs : List Character) (k : Sign) → names k ≡ false → taken (step_in_name v n k c) cs ≡ option_map (λ (ps : List Piece). bare v ∷ ps) (taken (step_at n k c) cs)
bare_by n v c cs Letter s = absurd (true≢false s)
bare_by n v c cs Digit s = absurd (true≢false s)
bare_by n v c cs k s = taken-behind (bare v) (step_at n k c) cs

ended_bare : (n : ℕ) (v : List ℕ) → ended_at_end n (InName v) ≡ option_map (λ (ps : List Piece). bare v ∷ ps) (ended_at_end n Nothing)
ended_bare zero v = refl
ended_bare (suc n) v = refl

bare_ended : (n : ℕ) (v : List ℕ) (cs : List Character) → goes_on cs ≡ false → pieces_from n (InName v) cs ≡ option_map (λ (ps : List Piece). bare v ∷ ps) (pieces_from n Nothing cs)
bare_ended n v [] h = ended_bare n v
bare_ended n v (c ∷ cs) h = bare_by n v c cs (sign_of c) (sym (goes_on-is c cs (sign_of c) (sign_is c)) ∙ h)

bare_one : (n : ℕ) (u : List ℕ) (c : ℕ) (cs : List Character) → (sign_of (Active c) ≡ Letter) ⊎ (sign_of (Active c) ≡ Digit) → pieces_from n (InName u) (Active c ∷ cs) ≡ pieces_from n (InName (u ++ c ∷ [])) cs
bare_one n u c cs (inl h) = pieces_from-at n (InName u) (Active c) cs Letter h ∙ taken-on n (InName (u ++ c ∷ [])) cs
bare_one n u c cs (inr h) = pieces_from-at n (InName u) (Active c) cs Digit h ∙ taken-on n (InName (u ++ c ∷ [])) cs

named_one : (n : ℕ) (u : List ℕ) (c : ℕ) (cs : List Character) → (sign_of (Active c) ≡ Letter) ⊎ (sign_of (Active c) ≡ Digit) → pieces_from n (InBracedName u) (Active c ∷ cs) ≡ pieces_from n (InBracedName (u ++ c ∷ [])) cs
named_one n u c cs (inl h) = pieces_from-at n (InBracedName u) (Active c) cs Letter h ∙ taken-on n (InBracedName (u ++ c ∷ [])) cs
named_one n u c cs (inr h) = pieces_from-at n (InBracedName u) (Active c) cs Digit h ∙ taken-on n (InBracedName (u ++ c ∷ [])) cs

if_both : (t u : Bool) → (if t then u else false) ≡ true → (t ≡ true) × (u ≡ true)
if_both true u h = (refl, h)
if_both false u h = absurd (true≢false (sym h))

bare_read : (n : ℕ) (u v : List ℕ) (cs : List Character) → are_in_name v ≡ true → pieces_from n (InName u) (active v ++ cs) ≡ pieces_from n (InName (u ++ v)) cs
bare_read n u [] cs h = ap (λ (t : List ℕ). pieces_from n (InName t) cs) (sym (append-nil u))
bare_read n u (c ∷ v) cs h =
    let both = if_both (is_in_name c) (are_in_name v) h in
    bare_one n u c (active v ++ cs) (sign_named c both.0 (sign_of (Active c)) (sign_is (Active c))) ∙ bare_read n (u ++ c ∷ []) v cs both.1
    ∙ ap (λ (t : List ℕ). pieces_from n (InName t) cs) (append_assoc u (c ∷ []) v)

named_read : (n : ℕ) (u v : List ℕ) (cs : List Character) → are_in_name v ≡ true → pieces_from n (InBracedName u) (active v ++ cs) ≡ pieces_from n (InBracedName (u ++ v)) cs
named_read n u [] cs h = ap (λ (t : List ℕ). pieces_from n (InBracedName t) cs) (sym (append-nil u))
named_read n u (c ∷ v) cs h =
    let both = if_both (is_in_name c) (are_in_name v) h in
    named_one n u c (active v ++ cs) (sign_named c both.0 (sign_of (Active c)) (sign_is (Active c))) ∙ named_read n (u ++ c ∷ []) v cs both.1
    ∙ ap (λ (t : List ℕ). pieces_from n (InBracedName t) cs) (append_assoc u (c ∷ []) v)

-- behind `$` a name, behind `${` a name
dollar_read : (n : ℕ) (cs : List Character) → pieces_from n Nothing (Active 36 ∷ cs) ≡ pieces_from n AfterDollar cs
dollar_read n cs = pieces_from-at n Nothing (Active 36) cs Dollar sign-36 ∙ taken-on n AfterDollar cs

bare_name : (n : ℕ) (v : List ℕ) (cs : List Character) → is_name v ≡ true → pieces_from n Nothing (Active 36 ∷ (active v ++ cs)) ≡ pieces_from n (InName v) cs
bare_name n [] cs h = absurd (true≢false (sym h))
bare_name n (c ∷ v) cs h =
    let both = if_both (begins_name c) (are_in_name v) h in
    dollar_read n (Active c ∷ (active v ++ cs))
    ∙ pieces_from-at n AfterDollar (Active c) (active v ++ cs) Letter (sign_letter c both.0 (sign_of (Active c)) (sign_is (Active c)))
    ∙ taken-on n (InName (c ∷ [])) (active v ++ cs) ∙ bare_read n (c ∷ []) v cs both.1

nests : (n : ℕ) → MayNest n → nat_lt n 32 ≡ true
nests n h = grind (arith, nat_tests)

opened_read : (n : ℕ) (cs : List Character) → MayNest n → pieces_from n Nothing (Active 36 ∷ Active 123 ∷ cs) ≡ pieces_from n AfterBrace cs
opened_read n cs h =
    dollar_read n (Active 123 ∷ cs) ∙ pieces_from-at n AfterDollar (Active 123) cs OpenBrace sign-123
    ∙ ap (λ (b : Bool). taken (if b then on [] n AfterBrace else bad) cs) (nests n h) ∙ taken-on n AfterBrace cs

braced_name : (n : ℕ) (v : List ℕ) (cs : List Character) → is_name v ≡ true → MayNest n → pieces_from n Nothing (Active 36 ∷ Active 123 ∷ (active v ++ cs)) ≡ pieces_from n (InBracedName v) cs
braced_name n [] cs h i = absurd (true≢false (sym h))
braced_name n (c ∷ v) cs h i =
    let both = if_both (begins_name c) (are_in_name v) h in
    opened_read n (Active c ∷ (active v ++ cs)) i
    ∙ pieces_from-at n AfterBrace (Active c) (active v ++ cs) Letter (sign_letter c both.0 (sign_of (Active c)) (sign_is (Active c)))
    ∙ taken-on n (InBracedName (c ∷ [])) (active v ++ cs) ∙ named_read n (c ∷ []) v cs both.1

put_before : (p : Piece) (o : Option (List Piece)) (ps : List Piece) → o ≡ Some ps → option_map (λ (qs : List Piece). p ∷ qs) o ≡ Some (p ∷ ps)
put_before p o ps h = ap (λ (u : Option (List Piece)). option_map (λ (qs : List Piece). p ∷ qs) u) h

dollar_itself : (n : ℕ) (c : Character) (cs : List Character) (ps : List Piece) → sign_of c ≡ Dollar → SignIs Dollar c → StandsForItself n c cs → pieces_from n Nothing cs ≡ Some ps → pieces_from n Nothing (c ∷ cs) ≡ Some (itself c ∷ ps)
dollar_itself n (Literal c) cs ps e h s j = absurd h
dollar_itself n (Active c) cs ps e h s j =
    pieces_from-at n Nothing (Active c) cs Dollar e ∙ taken-on n AfterDollar cs ∙ started_alone n cs (s.0 h) ∙ put_before (itself (Active 36)) _ ps j
    ∙ ap (λ x. Some (itself (Active x) ∷ ps)) (sym h)

close_none : (n : ℕ) (c : Character) (cs : List Character) → n ≡ 0 → taken (step_close n c) cs ≡ option_map (λ (qs : List Piece). itself c ∷ qs) (pieces_from n Nothing cs)
close_none zero c cs h = refl
close_none (suc n) c cs h = absurd (omega arith)

brace_itself : (n : ℕ) (c : Character) (cs : List Character) (ps : List Piece) → sign_of c ≡ CloseBrace → SignIs CloseBrace c → StandsForItself n c cs → pieces_from n Nothing cs ≡ Some ps → pieces_from n Nothing (c ∷ cs) ≡ Some (itself c ∷ ps)
brace_itself n (Literal c) cs ps e h s j = absurd h
brace_itself n (Active c) cs ps e h s j = pieces_from-at n Nothing (Active c) cs CloseBrace e ∙ close_none n (Active c) cs (s.1 h) ∙ put_before (itself (Active c)) _ ps j

itself_read : (n : ℕ) (c : Character) (cs : List Character) (ps : List Piece) (k : Sign) → sign_of c ≡ k → SignIs k c → StandsForItself n c cs → pieces_from n Nothing cs ≡ Some ps → pieces_from n Nothing (c ∷ cs) ≡ Some (itself c ∷ ps)
itself_read n c cs ps Dollar e h s j = dollar_itself n c cs ps e h s j
itself_read n c cs ps CloseBrace e h s j = brace_itself n c cs ps e h s j
itself_read n c cs ps k e h s j = pieces_from-at n Nothing c cs k e ∙ ap (λ (o : Option (List Piece)). option_map (λ (qs : List Piece). itself c ∷ qs) o) j

piece_text-at : (p : Piece) (ps : List Piece) (v : List ℕ) (ends : List Character) (front : List Character) → written (p ∷ ps) ≡ front ++ ((active v ++ ends) ++ written ps) → written (p ∷ ps) ≡ front ++ (active v ++ (ends ++ written ps))
piece_text-at p ps v ends front h = h ∙ ap (λ (t : List Character). front ++ t) (append_assoc (active v) ends (written ps))

coloned_read : (n : ℕ) (v : List ℕ) (cs : List Character) → pieces_from n (InBracedName v) (Active 58 ∷ cs) ≡ pieces_from n (AfterColon v) cs
coloned_read n v cs = pieces_from-at n (InBracedName v) (Active 58) cs Colon sign-58 ∙ taken-on n (AfterColon v) cs

opened_reads : (n : ℕ) (o : Operator) (t : Test) (v : List ℕ) (cs : List Character) → pieces_from n (InBracedName v) (operator_text o t ++ cs) ≡ taken (step_open o t v n) cs
opened_reads n Default IsSet v cs = pieces_from-at n (InBracedName v) (Active 45) cs Dash sign-45
opened_reads n Alternative IsSet v cs = pieces_from-at n (InBracedName v) (Active 43) cs Plus sign-43
opened_reads n Required IsSet v cs = pieces_from-at n (InBracedName v) (Active 63) cs Question sign-63
opened_reads n Default IsFilled v cs = coloned_read n v (Active 45 ∷ cs) ∙ pieces_from-at n (AfterColon v) (Active 45) cs Dash sign-45
opened_reads n Alternative IsFilled v cs = coloned_read n v (Active 43 ∷ cs) ∙ pieces_from-at n (AfterColon v) (Active 43) cs Plus sign-43
opened_reads n Required IsFilled v cs = coloned_read n v (Active 63 ∷ cs) ∙ pieces_from-at n (AfterColon v) (Active 63) cs Question sign-63

all_read : (n : ℕ) (ps : List Piece) → AllStand n ps → pieces_from n Nothing (written ps) ≡ Some ps
all_read n [] h = ap (λ m. ended_at_end m Nothing) h
all_read n (itself c ∷ ps) h = itself_read n c (written ps) ps (sign_of c) refl (sign_is c) h.0 (all_read n ps h.1)
all_read n (bare v ∷ ps) h = bare_name n v (written ps) h.0 ∙ bare_ended n v (written ps) h.1 ∙ put_before (bare v) _ ps (all_read n ps h.2)
all_read n (braced v ∷ ps) h =
    ap (λ (t : List Character). pieces_from n Nothing t) (piece_text-at (braced v) ps v (Active 125 ∷ []) (Active 36 ∷ Active 123 ∷ []) refl)
    ∙ braced_name n v (Active 125 ∷ written ps) h.0 h.1 ∙ pieces_from-at n (InBracedName v) (Active 125) (written ps) CloseBrace sign-125 ∙ put_before (braced v) _ ps (all_read n ps h.2)
all_read n (opening o t v ∷ ps) h =
    ap (λ (u : List Character). pieces_from n Nothing u) (piece_text-at (opening o t v) ps v (operator_text o t) (Active 36 ∷ Active 123 ∷ []) refl)
    ∙ braced_name n v (operator_text o t ++ written ps) h.0 h.1 ∙ opened_reads n o t v (written ps) ∙ put_before (opening o t v) _ ps (all_read (suc n) ps h.2)
all_read zero (close ∷ ps) h = absurd h
all_read (suc n) (close ∷ ps) h = pieces_from-at (suc n) Nothing (Active 125) (written ps) CloseBrace sign-125 ∙ put_before close _ ps (all_read n ps h)

pub pieces-only : (cs : List Character) (ps : List Piece) → AllStand 0 ps → cs ≡ written ps → pieces cs ≡ Some ps
unfolding pieces
pieces-only cs ps h i = ap (λ (t : List Character). pieces_from 0 Nothing t) i ∙ all_read 0 ps h
