-- Rounds of entries that several threads print.
use Rattle.std.proofs.Common.{◌≡◌, ℕ, zero, suc, ◌+◌, ◌*◌, ◌<◌, true, ◌||◌, nat_lt, List, [], ◌∷◌, ◌++◌, refl, sym, ap, ◌∙◌, subst, arith, take, drop, length, codes, Option, Some, Result, Ok, Err, is_ok}
use Rattle.std.proofs.lemmas.Bool.{false≢true}
use Rattle.std.proofs.lemmas.Bool.Decides.{nat_tests}
use Rattle.std.specs.Io.KnownBytes.{Appends}
use Rattle.plain.specs.declared.fault.Fault.{Fault}
use Rattle.plain.specs.declared.fault.Fault.TheVariants.{Because, Memory}
use Rattle.counted.specs.declared.fault.Device.{Device}
use Rattle.counted.specs.Gathering.{Gathering, nothing, Sink, sink, Says, IsWritten}
use Rattle.trees.specs.Row.{Row}
use Rattle.entries.specs.PrivatePrinting.{rows_text, rest_text}
use Rattle.entries.specs.PrivateTogether.{text_behind_rows}
use Rattle.entries.proofs.PrintingFacts.{rows-split}

drop_nothing : {A : Type 0} (n : ℕ) → drop {A = A} n [] ≡ []
drop_nothing zero = refl
drop_nothing (suc n) = refl

drop_suc : {A : Type 0} (m n : ℕ) (xs : List A) → drop n (drop m xs) ≡ drop (m + n) xs
drop_suc zero n xs =
    let e : n ≡ zero + n = omega arith in
    ap (λ k. drop k xs) e
drop_suc (suc m) n [] = drop_nothing n ∙ sym (drop_nothing (suc m + n))
drop_suc (suc m) n (x ∷ xs) =
    let e : suc (m + n) ≡ suc m + n = omega arith in
    drop_suc m n xs ∙ ap (λ k. drop k (x ∷ xs)) e

-- what is behind some of what is behind others
pub drop-behind : {A : Type 0} (m n k : ℕ) (xs left : List A) → left ≡ drop m xs → m + n ≡ k → drop n left ≡ drop k xs
drop-behind m n k xs left is sum = ap (drop n) is ∙ drop_suc m n xs ∙ ap (λ j. drop j xs) sum

-- behind nothing there is nothing
pub drop-more : {A : Type 0} (m n : ℕ) (xs : List A) → drop m xs ≡ [] → drop (m + n) xs ≡ []
drop-more m n xs none = sym (drop_suc m n xs) ∙ ap (drop n) none ∙ drop_nothing n

pub positive : (n : ℕ) → 0 < n → nat_lt 0 n ≡ true
positive n more = grind (arith, nat_tests)

-- others stand before an entry of a round if any stand before the round, or its place isn't the first
pub later-either : (behind place : ℕ) → (nat_lt 0 behind || nat_lt 0 place) ≡ nat_lt 0 (behind + place * 2048)
later-either zero zero =
    let e : 0 ≡ zero + zero * 2048 = omega arith in
    ap (nat_lt 0) e
later-either zero (suc place) = positive (suc place) (omega arith) ∙ sym (positive (zero + suc place * 2048) (omega arith))
later-either (suc behind) place =
    ap (λ b. b || nat_lt 0 place) (positive (suc behind) (omega arith))
    ∙ sym (positive (suc behind + place * 2048) (omega arith))

-- a block, and then what is behind it
pub block-then : (rows : List Row) (behind next size : ℕ) → 0 < size → behind + size ≡ next
    → rows_text (nat_lt 0 behind) (take size (drop behind rows)) ++ text_behind_rows rows next ≡ text_behind_rows rows behind
block-then rows behind next size some sum =
    ap (λ t. rows_text (nat_lt 0 behind) (take size (drop behind rows)) ++ t)
    (ap (λ later. rest_text later (drop next rows)) (positive next (omega arith)) ∙ ap (rest_text true) (sym (drop-behind behind size next rows (drop behind rows) refl sum)))
    ∙ rows-split size (nat_lt 0 behind) (drop behind rows) some

-- what was printed to a writer into memory, if it was written whole
written_whole : (before after : Option (List ℕ)) (failures count : ℕ) (text : List ℕ) (r : Result (Unit {0}) (Fault Device)) → is_ok r ≡ true → IsWritten before failures after count text r → Appends before after text
written_whole before after failures count text (Ok done) ok written = written.0
written_whole before after failures count text (Err Memory) ok written = absurd written
written_whole before after failures count text (Err (Because gone)) ok written = absurd (false≢true ok)

pub printed-whole : (before after text : List ℕ) (failures count : ℕ) (start : Gathering) (mid : Sink) (r : Result (Unit {0}) (Fault Device)) → before ≡ [] → start ≡ nothing
    → Says (sink (Some before) failures start) mid text → ((contents : Option (List ℕ)) (n : ℕ) (said : List ℕ) → Says (sink contents n nothing) mid said → IsWritten contents n (Some after) count said r)
    → is_ok r ≡ true → after ≡ text
printed-whole before after text failures count start mid r empty fresh said ends ok =
    let whole : Says (sink (Some before) failures nothing) mid text = subst (λ s. Says (sink (Some before) failures s) mid text) fresh said in
    let grown : after ≡ before ++ text = written_whole (Some before) (Some after) failures count text r ok (ends (Some before) failures text whole) in
    grown ∙ ap (λ b. b ++ text) empty

-- an item of a list that has one
pub some_item : {A : Type 0} (xs : List A) → 0 < length xs → A
some_item [] more = absurd (omega arith)
some_item (x ∷ xs) more = x

-- where nothing is left, the bracket is
pub text-done : (rows : List Row) (behind : ℕ) → drop behind rows ≡ [] → codes "]" ≡ text_behind_rows rows behind
text-done rows behind none = sym (ap (rest_text (nat_lt 0 behind)) none)
