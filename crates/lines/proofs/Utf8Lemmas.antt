-- Where bytes stop being UTF-8 as more of them come: a fault stays where it is, and bytes that only begin a character hold no LF.
use Rattle.std.specs.Prelude.{◌≡◌, ◌<◌, ◌≤◌, ◌⊎◌, ℕ, zero, suc, ◌+◌, ◌-◌, ◌*◌, ◌==◌, nat_lt, Bool, true, false, List, [], ◌∷◌, ◌++◌, Option, Some, None, length, take, drop, if◌then◌else◌, IsUtf8, refl}
use Rattle.std.specs.Str.{IsValidUpTo}
use Rattle.std.specs.Str.Lossy.{utf8_error_len, error_len_of_some, second_byte_min, second_byte_max}
use Rattle.std.specs.Int.{is_in_range}
use Rattle.std.proofs.Common.{◌∙◌, sym, ap, subst, inl, inr, append_assoc, arith, get_or}
use Rattle.std.proofs.lemmas.Bool.Decides.{nat_tests}
use Rattle.std.proofs.lemmas.List.{length-append, length-drop, take-append-le, get_or_append_left, get_or_default, get_or-drop}
use Rattle.std.proofs.Math.Seq.{take-append_seam, drop-append_seam, take-append-add, drop-append-add, get_or-append_seam}
use Rattle.std.proofs.lemmas.Str.{IsUtf8-append, IsUtf8-drop, IsUtf8-take, IsUtf8-nil, IsCharBoundary-from_take, IsCharBoundary-after_ascii, IsCharBoundary-before_ascii}
use Rattle.std.proofs.str.Faults.{Ranged, no_char, valid_to}
use Rattle.std.proofs.str.Laws.{Follows, order}
use Rattle.std.proofs.str.Valid.{of_one, of_two, of_three, of_four, longer}
use Rattle.lines.specs.Ready.{IsWhole, empty, ended, HasNoLf}

-- why no character begins some bytes, by the first four of them and their number
data IsFaulty (m x y z : ℕ) : Type 0 where
  first : (x < 194) ⊎ (244 < x) → IsFaulty m x y z
  second : 1 < m → is_in_range (second_byte_min x) (second_byte_max x) y ≡ false → IsFaulty m x y z
  third : 2 < m → is_in_range 128 191 z ≡ false → IsFaulty m x y z
  fourth : 3 < m → is_in_range (second_byte_min x) (second_byte_max x) y ≡ true → is_in_range 128 191 z ≡ true → IsFaulty m x y z

none_is : {A : Type 0} (k : ℕ) → None ≡ Some k → A
none_is k e = absurd (cc)

faulty_fourth : (m x y z k : ℕ) (b : Bool) → nat_lt m 4 ≡ b → is_in_range (second_byte_min x) (second_byte_max x) y ≡ true → is_in_range 128 191 z ≡ true
    → (if b then None else Some 3) ≡ Some k → IsFaulty m x y z
faulty_fourth m x y z k true e h i f = none_is k f
faulty_fourth m x y z k false e h i f = fourth (grind (arith, nat_tests)) h i

faulty_third : (m x y z k : ℕ) (b : Bool) → 2 < m → is_in_range 128 191 z ≡ b → is_in_range (second_byte_min x) (second_byte_max x) y ≡ true
    → (if b then (if nat_lt m 4 then None else Some 3) else Some 2) ≡ Some k → IsFaulty m x y z
faulty_third m x y z k true l i h f = faulty_fourth m x y z k (nat_lt m 4) refl h i f
faulty_third m x y z k false l i h f = third l i

faulty_two : (m x y z k : ℕ) (b : Bool) → nat_lt m 3 ≡ b → is_in_range (second_byte_min x) (second_byte_max x) y ≡ true
    → (if b then None else (if is_in_range 128 191 z then (if nat_lt m 4 then None else Some 3) else Some 2)) ≡ Some k → IsFaulty m x y z
faulty_two m x y z k true e h f = none_is k f
faulty_two m x y z k false e h f = faulty_third m x y z k (is_in_range 128 191 z) (grind (arith, nat_tests)) refl h f

faulty_second : (m x y z k : ℕ) (b : Bool) → 1 < m → is_in_range (second_byte_min x) (second_byte_max x) y ≡ b
    → (if b then (if nat_lt m 3 then None else (if is_in_range 128 191 z then (if nat_lt m 4 then None else Some 3) else Some 2)) else Some 1) ≡ Some k → IsFaulty m x y z
faulty_second m x y z k true l e f = faulty_two m x y z k (nat_lt m 3) refl e f
faulty_second m x y z k false l e f = second l e

faulty_one : (m x y z k : ℕ) (b : Bool) → nat_lt m 2 ≡ b
    → (if b then None else (if is_in_range (second_byte_min x) (second_byte_max x) y then (if nat_lt m 3 then None else (if is_in_range 128 191 z then (if nat_lt m 4 then None else Some 3) else Some 2)) else Some 1)) ≡ Some k
    → IsFaulty m x y z
faulty_one m x y z k true e f = none_is k f
faulty_one m x y z k false e f = faulty_second m x y z k (is_in_range (second_byte_min x) (second_byte_max x) y) (grind (arith, nat_tests)) refl f

faulty_first : (m x y z k : ℕ) (b : Bool) → is_in_range 194 244 x ≡ b
    → (if b then (if nat_lt m 2 then None else (if is_in_range (second_byte_min x) (second_byte_max x) y then (if nat_lt m 3 then None else (if is_in_range 128 191 z then (if nat_lt m 4 then None else Some 3) else Some 2)) else Some 1)) else Some 1) ≡ Some k
    → IsFaulty m x y z
faulty_first m x y z k true e f = faulty_one m x y z k (nat_lt m 2) refl f
faulty_first m x y z k false e f = first (grind (arith, nat_tests))

faulty_by : (bs : List ℕ) (k : ℕ) (b : Bool) → (length bs == 0) ≡ b → (if b then None else error_len_of_some bs) ≡ Some k → IsFaulty (length bs) (get_or bs 0 0) (get_or bs 1 0) (get_or bs 2 0)
faulty_by bs k true e f = none_is k f
faulty_by bs k false e f = faulty_first (length bs) (get_or bs 0 0) (get_or bs 1 0) (get_or bs 2 0) k (is_in_range 194 244 (get_or bs 0 0)) refl f

faulty : (bs : List ℕ) (k : ℕ) → utf8_error_len bs ≡ Some k → IsFaulty (length bs) (get_or bs 0 0) (get_or bs 1 0) (get_or bs 2 0)
unfolding utf8_error_len
faulty bs k e = faulty_by bs k (length bs == 0) refl e

-- what may follow the first byte of a character follows it
second_is : (x y : ℕ) (a b c d : Bool) → (x == 224) ≡ a → (x == 240) ≡ b → (x == 237) ≡ c → (x == 244) ≡ d
    → Follows y → (x ≡ 224 → 160 ≤ y) → (x ≡ 240 → 144 ≤ y) → (x ≡ 237 → y < 160) → (x ≡ 244 → y < 144)
    → is_in_range (if a then 160 else (if b then 144 else 128)) (if c then 159 else (if d then 143 else 191)) y ≡ true
second_is x y true b true d e f g h s p q r t = absurd (let k : x ≡ 224 = grind (arith, nat_tests) in let l : x ≡ 237 = grind (arith, nat_tests) in omega arith)
second_is x y true b false true e f g h s p q r t = absurd (let k : x ≡ 224 = grind (arith, nat_tests) in let l : x ≡ 244 = grind (arith, nat_tests) in omega arith)
second_is x y true b false false e f g h s p q r t = let k : x ≡ 224 = grind (arith, nat_tests) in let l = p k in let u = s.1 in grind (arith, nat_tests)
second_is x y false true true d e f g h s p q r t = absurd (let k : x ≡ 240 = grind (arith, nat_tests) in let l : x ≡ 237 = grind (arith, nat_tests) in omega arith)
second_is x y false true false true e f g h s p q r t = absurd (let k : x ≡ 240 = grind (arith, nat_tests) in let l : x ≡ 244 = grind (arith, nat_tests) in omega arith)
second_is x y false true false false e f g h s p q r t = let k : x ≡ 240 = grind (arith, nat_tests) in let l = q k in let u = s.1 in grind (arith, nat_tests)
second_is x y false false true d e f g h s p q r t = let k : x ≡ 237 = grind (arith, nat_tests) in let l = r k in let u = s.0 in grind (arith, nat_tests)
second_is x y false false false true e f g h s p q r t = let k : x ≡ 244 = grind (arith, nat_tests) in let l = t k in let u = s.0 in grind (arith, nat_tests)
second_is x y false false false false e f g h s p q r t = let u = s.0 in let v = s.1 in grind (arith, nat_tests)

low_high : (x y : ℕ) → ((x - 224) * 64 + (y - 128) < 864) ⊎ (896 ≤ (x - 224) * 64 + (y - 128)) → 224 ≤ x → x < 240 → Follows y → x ≡ 237 → y < 160
low_high x y (inl h) l u f e = omega (arith, f.0, f.1)
low_high x y (inr h) l u f e = absurd (omega (arith, f.0, f.1))

second_ranged : (n x y z w : ℕ) → Ranged n x y z w → 194 ≤ x → x ≤ 244 → is_in_range (second_byte_min x) (second_byte_max x) y ≡ true
second_ranged n x y z w r l u =
    let f : Follows y = (r.second (omega arith)).2 in
    second_is x y (x == 224) (x == 240) (x == 237) (x == 244) refl refl refl refl f
    (λ e. let h = (r.in_three (omega arith) (omega arith)).0 in omega (arith, h, f.0))
    (λ e. let h = (r.fourth (omega arith)).2.0 in omega (arith, h, f.0))
    (λ e. low_high x y (r.in_three (omega arith) (omega arith)).1 (omega arith) (omega arith) f e)
    (λ e. let h = (r.fourth (omega arith)).2.1 in omega (arith, h, f.0))

third_ranged : (z : ℕ) → Follows z → is_in_range 128 191 z ≡ true
third_ranged z f = let u = f.0 in let v = f.1 in grind (arith, nat_tests)

true_false : {A : Type 0} (b : Bool) → b ≡ true → b ≡ false → A
true_false b e f = absurd (cc)

-- characters of one to four bytes, as their bytes say
abbrev Three : ℕ → ℕ → ℕ → Type 0
Three x y z = (224 ≤ x) × (x < 240) × Follows y × Follows z × (32 ≤ (x - 224) * 64 + (y - 128)) × (((x - 224) * 64 + (y - 128) < 864) ⊎ (896 ≤ (x - 224) * 64 + (y - 128)))

abbrev Four : ℕ → ℕ → ℕ → ℕ → Type 0
Four x y z w = (240 ≤ x) × Follows y × Follows z × Follows w × (16 ≤ (x - 240) * 64 + (y - 128)) × ((x - 240) * 64 + (y - 128) < 272)

-- bytes of which the first m aren't enough for the character that all of them begin with
record IsNone (m x y z w : ℕ) : Type 0 where
  one : x < 128 → ⊥
  two : 1 < m → 194 ≤ x → x < 224 → Follows y → ⊥
  three : 2 < m → Three x y z → ⊥
  four : 3 < m → Four x y z w → ⊥

ranged_low : (n x y z w : ℕ) → Ranged n x y z w → x ≤ 244
ranged_low n x y z w r = by (order x 240)
  where
    by : (x < 240) ⊎ (240 ≤ x) → x ≤ 244
    by (inl h) = omega arith
    by (inr h) = let f = (r.fourth h).2.1 in omega (arith, f)

faulty_not : (n m x y z w : ℕ) → IsFaulty m x y z → Ranged n x y z w → IsNone m x y z w → ⊥
faulty_not n m x y z w f r k = by (order x 128)
  where
    fits : 128 ≤ x → 194 ≤ x
    fits h = (r.second h).0

    long : 128 ≤ x → (x < 224) ⊎ (224 ≤ x) → 2 < m → 224 ≤ x
    long h (inl u) l = absurd (k.two (omega arith) (fits h) u (r.second h).2)
    long h (inr u) l = u

    last : 128 ≤ x → 224 ≤ x → 3 < m → (x < 240) ⊎ (240 ≤ x) → ⊥
    last h u l (inl v) = k.three (omega arith) (u, v, (r.second h).2, (r.third u).1, (r.in_three u v).0, (r.in_three u v).1)
    last h u l (inr v) = k.four l (v, (r.second h).2, (r.third u).1, (r.fourth v).1, (r.fourth v).2.0, (r.fourth v).2.1)

    past : 128 ≤ x → IsFaulty m x y z → ⊥
    past h (first (inl u)) = omega (arith, fits h)
    past h (first (inr u)) = omega (arith, ranged_low n x y z w r)
    past h (second l e) = true_false (is_in_range (second_byte_min x) (second_byte_max x) y) (second_ranged n x y z w r (fits h) (ranged_low n x y z w r)) e
    past h (third l e) = true_false (is_in_range 128 191 z) (third_ranged z (r.third (long h (order x 224) l)).1) e
    past h (fourth l e i) = last h (long h (order x 224) (omega arith)) l (order x 240)

    by : (x < 128) ⊎ (128 ≤ x) → ⊥
    by (inl h) = k.one h
    by (inr h) = past h f

-- bytes that only begin a character

-- what is known of bytes, the first ones x, y, z, if they end before a character that they begin
record IsBegunBy (m x y z : ℕ) : Type 0 where
  one : 0 < m → is_in_range 194 244 x ≡ true
  two : 1 < m → is_in_range (second_byte_min x) (second_byte_max x) y ≡ true
  three : 2 < m → is_in_range 128 191 z ≡ true
  few : m < 4

-- the lengths of faults
abbrev at_one : Option ℕ
at_one = Some 1

abbrev at_two : Option ℕ
at_two = Some 2

abbrev at_three : Option ℕ
at_three = Some 3

some_is : {A : Type 0} (k : ℕ) → Some k ≡ None → A
some_is k e = absurd (cc)

begun_fourth : (m x y z : ℕ) (b : Bool) → nat_lt m 4 ≡ b → is_in_range 194 244 x ≡ true → is_in_range (second_byte_min x) (second_byte_max x) y ≡ true → is_in_range 128 191 z ≡ true
    → (if b then None else at_three) ≡ None → IsBegunBy m x y z
begun_fourth m x y z true e f h i g = record { one = λ l. f; two = λ l. h; three = λ l. i; few = grind (arith, nat_tests) }
begun_fourth m x y z false e f h i g = some_is 3 g

begun_third : (m x y z : ℕ) (b : Bool) → is_in_range 128 191 z ≡ b → is_in_range 194 244 x ≡ true → is_in_range (second_byte_min x) (second_byte_max x) y ≡ true
    → (if b then (if nat_lt m 4 then None else at_three) else at_two) ≡ None → IsBegunBy m x y z
begun_third m x y z true i f h g = begun_fourth m x y z (nat_lt m 4) refl f h i g
begun_third m x y z false i f h g = some_is 2 g

begun_two : (m x y z : ℕ) (b : Bool) → nat_lt m 3 ≡ b → is_in_range 194 244 x ≡ true → is_in_range (second_byte_min x) (second_byte_max x) y ≡ true
    → (if b then None else (if is_in_range 128 191 z then (if nat_lt m 4 then None else at_three) else at_two)) ≡ None → IsBegunBy m x y z
begun_two m x y z true e f h g =
    let few : m < 3 = grind (arith, nat_tests) in
    record { one = λ l. f; two = λ l. h; three = λ l. absurd (omega arith); few = omega arith }
begun_two m x y z false e f h g = begun_third m x y z (is_in_range 128 191 z) refl f h g

begun_second : (m x y z : ℕ) (b : Bool) → is_in_range (second_byte_min x) (second_byte_max x) y ≡ b → is_in_range 194 244 x ≡ true
    → (if b then (if nat_lt m 3 then None else (if is_in_range 128 191 z then (if nat_lt m 4 then None else at_three) else at_two)) else at_one) ≡ None → IsBegunBy m x y z
begun_second m x y z true h f g = begun_two m x y z (nat_lt m 3) refl f h g
begun_second m x y z false h f g = some_is 1 g

begun_one : (m x y z : ℕ) (b : Bool) → nat_lt m 2 ≡ b → is_in_range 194 244 x ≡ true
    → (if b then None else (if is_in_range (second_byte_min x) (second_byte_max x) y then (if nat_lt m 3 then None else (if is_in_range 128 191 z then (if nat_lt m 4 then None else at_three) else at_two)) else at_one)) ≡ None → IsBegunBy m x y z
begun_one m x y z true e f g =
    let few : m < 2 = grind (arith, nat_tests) in
    record { one = λ l. f; two = λ l. absurd (omega arith); three = λ l. absurd (omega arith); few = omega arith }
begun_one m x y z false e f g = begun_second m x y z (is_in_range (second_byte_min x) (second_byte_max x) y) refl f g

begun_first : (m x y z : ℕ) (b : Bool) → is_in_range 194 244 x ≡ b
    → (if b then (if nat_lt m 2 then None else (if is_in_range (second_byte_min x) (second_byte_max x) y then (if nat_lt m 3 then None else (if is_in_range 128 191 z then (if nat_lt m 4 then None else at_three) else at_two)) else at_one)) else at_one) ≡ None → IsBegunBy m x y z
begun_first m x y z true f g = begun_one m x y z (nat_lt m 2) refl f g
begun_first m x y z false f g = some_is 1 g

begun_by : (bs : List ℕ) (b : Bool) → (length bs == 0) ≡ b → (if b then None else error_len_of_some bs) ≡ None → IsBegunBy (length bs) (get_or bs 0 0) (get_or bs 1 0) (get_or bs 2 0)
begun_by bs true e g =
    let none : length bs ≡ 0 = grind (arith, nat_tests) in
    record { one = λ l. absurd (omega arith); two = λ l. absurd (omega arith); three = λ l. absurd (omega arith); few = omega arith }
begun_by bs false e g = begun_first (length bs) (get_or bs 0 0) (get_or bs 1 0) (get_or bs 2 0) (is_in_range 194 244 (get_or bs 0 0)) refl g

begun : (bs : List ℕ) → utf8_error_len bs ≡ None → IsBegunBy (length bs) (get_or bs 0 0) (get_or bs 1 0) (get_or bs 2 0)
unfolding utf8_error_len
begun bs e = begun_by bs (length bs == 0) refl e

-- they hold no LF

min_high : (x : ℕ) (a b : Bool) → 128 ≤ (if a then 160 else (if b then 144 else 128))
min_high x true b = omega arith
min_high x false true = omega arith
min_high x false false = omega arith

at_least : (lo hi c : ℕ) → is_in_range lo hi c ≡ true → lo ≤ c
at_least lo hi c e = grind (arith, nat_tests)

high_byte : (bs : List ℕ) (k : ℕ) → IsBegunBy (length bs) (get_or bs 0 0) (get_or bs 1 0) (get_or bs 2 0) → k < length bs → 128 ≤ get_or bs k 0
high_byte bs zero h l = let a = at_least 194 244 (get_or bs 0 0) (h.one l) in omega arith
high_byte bs (suc zero) h l =
    let a = at_least (second_byte_min (get_or bs 0 0)) (second_byte_max (get_or bs 0 0)) (get_or bs 1 0) (h.two (omega arith)) in
    let b = min_high (get_or bs 0 0) (get_or bs 0 0 == 224) (get_or bs 0 0 == 240) in omega arith
high_byte bs (suc (suc zero)) h l = let a = at_least 128 191 (get_or bs 2 0) (h.three (omega arith)) in omega arith
high_byte bs (suc (suc (suc k))) h l = let f = h.few in absurd (omega arith)

no_lf : (c : ℕ) → 128 ≤ c → (c == 10) ≡ false
no_lf c h = grind (arith, nat_tests)

pub begun_plain : (bs : List ℕ) → utf8_error_len bs ≡ None → HasNoLf bs
begun_plain bs e = λ k d l. no_lf (get_or bs k d) (subst (λ c. 128 ≤ c) (get_or_default bs k 0 d l) (high_byte bs k (begun bs e) l))

-- and a fault is none of them
faulty_begun : (m x y z : ℕ) → 0 < m → IsFaulty m x y z → IsBegunBy m x y z → ⊥
faulty_begun m x y z p (first (inl h)) b = let a = at_least 194 244 x (b.one p) in omega arith
faulty_begun m x y z p (first (inr h)) b = let a : x ≤ 244 = at_most 194 244 x (b.one p) in omega arith
  where
    at_most : (lo hi c : ℕ) → is_in_range lo hi c ≡ true → c ≤ hi
    at_most lo hi c e = grind (arith, nat_tests)
faulty_begun m x y z p (second l e) b = true_false (is_in_range (second_byte_min x) (second_byte_max x) y) (b.two l) e
faulty_begun m x y z p (third l e) b = true_false (is_in_range 128 191 z) (b.three l) e
faulty_begun m x y z p (fourth l e i) b = let f = b.few in omega arith

faulty_grows : (m n x y z : ℕ) → m ≤ n → IsFaulty m x y z → IsFaulty n x y z
faulty_grows m n x y z l (first h) = first h
faulty_grows m n x y z l (second p e) = second (omega arith) e
faulty_grows m n x y z l (third p e) = third (omega arith) e
faulty_grows m n x y z l (fourth p e i) = fourth (omega arith) e i

module _ (t : List ℕ) (n : ℕ) (v : IsValidUpTo t n) where
  stops : (w : ℕ) → 0 < w → IsUtf8 (take w (drop n t)) → ⊥
  stops w p u = v.longest (n + w) (omega arith) (longer t n w v.front u)

  three_fits : (x y z : ℕ) → Three x y z → let c = (x - 224) * 4096 + (y - 128) * 64 + (z - 128) in (2048 ≤ c) × ((c < 55296) ⊎ (57344 ≤ c))
  three_fits x y z h = (omega (arith, h.2.0, h.2.1, h.3.0, h.3.1, h.4), by h.5)
    where
      by : ((x - 224) * 64 + (y - 128) < 864) ⊎ (896 ≤ (x - 224) * 64 + (y - 128)) → ((x - 224) * 4096 + (y - 128) * 64 + (z - 128) < 55296) ⊎ (57344 ≤ (x - 224) * 4096 + (y - 128) * 64 + (z - 128))
      by (inl l) = inl (omega (arith, h.2.0, h.2.1, h.3.0, h.3.1))
      by (inr l) = inr (omega (arith, h.2.0, h.2.1, h.3.0, h.3.1))

  -- no character begins there within the text
  none_there : IsNone (length t - n) (get_or t n 0) (get_or t (n + 1) 0) (get_or t (n + 2) 0) (get_or t (n + 3) 0)
  none_there = record {
    one = λ h. stops 1 (omega arith) (of_one t n v.short h);
    two = λ l h i f. stops 2 (omega arith) (of_two t n (omega arith) (h, i) f);
    three = λ l h. let c = three_fits (get_or t n 0) (get_or t (n + 1) 0) (get_or t (n + 2) 0) h in stops 3 (omega arith) (of_three t n (omega arith) (h.0, h.1) h.2 h.3 c.0 c.1);
    four = λ l h. stops 4 (omega arith) (of_four t n (omega arith) h.0 h.1 h.2 h.3 (h.4, h.5));
  }

  -- and none begins there with more bytes after it
  module _ (more : List ℕ) (k : ℕ) (e : utf8_error_len (drop n t) ≡ Some k) where
    same : (i : ℕ) → i < length t → get_or (t ++ more) i 0 ≡ get_or t i 0
    same i l = get_or_append_left t more 0 i l

    there : IsFaulty (length t - n) (get_or t n 0) (get_or t (n + 1) 0) (get_or t (n + 2) 0)
    there =
        let at0 : get_or (drop n t) 0 0 ≡ get_or t n 0 = get_or-drop n t 0 0 ∙ ap (λ i. get_or t i 0) (let z : n + 0 ≡ n = omega arith in z) in
        rw (← length-drop n t, ← at0, ← get_or-drop n t 1 0, ← get_or-drop n t 2 0) (faulty (drop n t) k e)

    moved : (m : ℕ) → m ≡ length t - n → (y z w y' z' w' : ℕ) → (1 < m → y' ≡ y) → (2 < m → z' ≡ z) → (3 < m → w' ≡ w)
        → IsFaulty m (get_or t n 0) y z → IsNone m (get_or t n 0) y z w → IsFaulty m (get_or t n 0) y' z' × IsNone m (get_or t n 0) y' z' w'
    moved m _ y z w y' z' w' p q r f u = (
      by f,
      record {
        one = u.one;
        two = λ l h i g. u.two l h i (subst Follows (p l) g);
        three = λ l h. u.three l (subst (λ a. Three (get_or t n 0) a z) (p (omega arith)) (subst (λ b. Three (get_or t n 0) y' b) (q l) h));
        four = λ l h. u.four l (subst (λ a. Four (get_or t n 0) a z w) (p (omega arith)) (subst (λ b. Four (get_or t n 0) y' b w) (q (omega arith)) (subst (λ c. Four (get_or t n 0) y' z' c) (r l) h)));
      },
    )
      where
        by : IsFaulty m (get_or t n 0) y z → IsFaulty m (get_or t n 0) y' z'
        by (first h) = first h
        by (second l h) = second l (ap (λ a. is_in_range (second_byte_min (get_or t n 0)) (second_byte_max (get_or t n 0)) a) (p l) ∙ h)
        by (third l h) = third l (ap (λ b. is_in_range 128 191 b) (q l) ∙ h)
        by (fourth l h i) = fourth l (ap (λ a. is_in_range (second_byte_min (get_or t n 0)) (second_byte_max (get_or t n 0)) a) (p (omega arith)) ∙ h) (ap (λ b. is_in_range 128 191 b) (q (omega arith)) ∙ i)

    bytes_there : IsFaulty (length t - n) (get_or t n 0) (get_or (t ++ more) (n + 1) 0) (get_or (t ++ more) (n + 2) 0)
        × IsNone (length t - n) (get_or t n 0) (get_or (t ++ more) (n + 1) 0) (get_or (t ++ more) (n + 2) 0) (get_or (t ++ more) (n + 3) 0)
    bytes_there =
        moved (length t - n) refl (get_or t (n + 1) 0) (get_or t (n + 2) 0) (get_or t (n + 3) 0) (get_or (t ++ more) (n + 1) 0) (get_or (t ++ more) (n + 2) 0) (get_or (t ++ more) (n + 3) 0)
        (λ l. same (n + 1) (omega arith)) (λ l. same (n + 2) (omega arith)) (λ l. same (n + 3) (omega arith)) there none_there

    none_ranged : Ranged (length (t ++ more) - n) (get_or (t ++ more) n 0) (get_or (t ++ more) (n + 1) 0) (get_or (t ++ more) (n + 2) 0) (get_or (t ++ more) (n + 3) 0) → ⊥
    none_ranged r =
        let short = v.short in
        let them = bytes_there in
        faulty_not (length (t ++ more) - n) (length t - n) (get_or t n 0) (get_or (t ++ more) (n + 1) 0) (get_or (t ++ more) (n + 2) 0) (get_or (t ++ more) (n + 3) 0) them.0
        (subst (λ x. Ranged (length (t ++ more) - n) x (get_or (t ++ more) (n + 1) 0) (get_or (t ++ more) (n + 2) 0) (get_or (t ++ more) (n + 3) 0)) (same n short) r) them.1

    pub fault_stays : IsValidUpTo (t ++ more) n
    fault_stays =
        let short = v.short in
        valid_to (t ++ more) n (omega (arith, length-append t more)) (subst IsUtf8 (sym (take-append-le n t more (omega arith))) v.front) (no_char (t ++ more) n none_ranged)

    pub fault_told : utf8_error_len (drop n (t ++ more)) ≡ None → ⊥
    fault_told e' =
        let short = v.short in
        let at0 : get_or (drop n (t ++ more)) 0 0 ≡ get_or t n 0 = get_or-drop n (t ++ more) 0 0 ∙ ap (λ i. get_or (t ++ more) i 0) (let z : n + 0 ≡ n = omega arith in z) ∙ same n short in
        let b : IsBegunBy (length (t ++ more) - n) (get_or t n 0) (get_or (t ++ more) (n + 1) 0) (get_or (t ++ more) (n + 2) 0) =
        rw (← length-drop n (t ++ more), ← at0, ← get_or-drop n (t ++ more) 1 0, ← get_or-drop n (t ++ more) 2 0) (begun (drop n (t ++ more)) e') in
        let them = bytes_there in
        faulty_begun (length (t ++ more) - n) (get_or t n 0) (get_or (t ++ more) (n + 1) 0) (get_or (t ++ more) (n + 2) 0) (omega (arith, length-append t more))
        (faulty_grows (length t - n) (length (t ++ more) - n) (get_or t n 0) (get_or (t ++ more) (n + 1) 0) (get_or (t ++ more) (n + 2) 0) (omega (arith, length-append t more)) them.0) b

-- what stands after a text is a text where both together are one
pub utf8_behind : (a b : List ℕ) → IsUtf8 a → IsUtf8 (a ++ b) → IsUtf8 b
utf8_behind a b u v =
    let front : IsUtf8 (take (length a) (a ++ b)) = subst IsUtf8 (sym (take-append_seam a b)) u in
    let fits : length a ≤ length (a ++ b) = omega (arith, length-append a b) in
    subst IsUtf8 (drop-append_seam a b) (IsUtf8-drop (a ++ b) (length a) v (IsCharBoundary-from_take (a ++ b) (length a) v fits front))

-- a text that is cut after an LF is cut between characters
cut_by : (f b : List ℕ) → IsUtf8 ((f ++ 10 ∷ []) ++ b) → IsUtf8 (f ++ 10 ∷ [])
cut_by f b u =
    let bs = (f ++ 10 ∷ []) ++ b in
    let here : get_or bs (length f) 0 ≡ 10 = ap (λ (t : List ℕ). get_or t (length f) 0) (append_assoc f (10 ∷ []) b) ∙ get_or-append_seam f 10 b 0 in
    let one = length-append f (10 ∷ []) in
    let all = length-append (f ++ 10 ∷ []) b in
    let cut = IsUtf8-take bs (length f + 1) u (IsCharBoundary-after_ascii bs (length f) u (omega arith) (omega arith)) in
    subst IsUtf8 (ap (λ n. take n bs) (sym one) ∙ take-append_seam (f ++ 10 ∷ []) b) cut

pub utf8_above : (a b : List ℕ) → IsWhole a → IsUtf8 (a ++ b) → IsUtf8 a
utf8_above _ b empty u = IsUtf8-nil
utf8_above _ b (ended f) u = cut_by f b u

pub utf8_below : (a b : List ℕ) → IsWhole a → IsUtf8 (a ++ b) → IsUtf8 b
utf8_below a b w u = utf8_behind a b (utf8_above a b w u) u

-- and a line is one without its LF
pub utf8_line : (line : List ℕ) → IsUtf8 (line ++ 10 ∷ []) → IsUtf8 line
utf8_line line u =
    let here : get_or (line ++ 10 ∷ []) (length line) 0 ≡ 10 = get_or-append_seam line 10 [] 0 in
    let all = length-append line (10 ∷ []) in
    subst IsUtf8 (take-append_seam line (10 ∷ [])) (IsUtf8-take (line ++ 10 ∷ []) (length line) u (IsCharBoundary-before_ascii (line ++ 10 ∷ []) (length line) (omega arith) (omega arith)))

-- a text before which more text stands stops being UTF-8 at the same place
pub valid_below : (a b : List ℕ) (k : ℕ) → IsUtf8 a → IsValidUpTo b k → IsValidUpTo (a ++ b) (length a + k)
valid_below a b k u v =
    let short = v.short in
    record {
      short = omega (arith, length-append a b);
      front = subst IsUtf8 (sym (take-append-add a b k)) (IsUtf8-append a (take k b) u v.front);
      longest = λ m l h.
          let is : length a + (m - length a) ≡ m = omega arith in
          let cut : take m (a ++ b) ≡ a ++ take (m - length a) b = ap (λ n. take n (a ++ b)) (sym is) ∙ take-append-add a b (m - length a) in
          v.longest (m - length a) (omega arith) (utf8_behind a (take (m - length a) b) u (subst IsUtf8 cut h));
    }

-- a fault of a text, which stays whatever follows
pub told_below : (a b : List ℕ) (k j : ℕ) → IsUtf8 a → IsValidUpTo b k → utf8_error_len (drop k b) ≡ Some j → (more : List ℕ) → utf8_error_len (drop (length a + k) ((a ++ b) ++ more)) ≡ None → ⊥
told_below a b k j u v e more =
    fault_told (a ++ b) (length a + k) (valid_below a b k u v) more j (ap utf8_error_len (drop-append-add a b k) ∙ e)

pub fault_below : (a b : List ℕ) (k j : ℕ) → IsUtf8 a → IsValidUpTo b k → utf8_error_len (drop k b) ≡ Some j → (more : List ℕ) → IsValidUpTo ((a ++ b) ++ more) (length a + k)
fault_below a b k j u v e more =
    fault_stays (a ++ b) (length a + k) (valid_below a b k u v) more j (ap utf8_error_len (drop-append-add a b k) ∙ e)

-- bytes after those that are UTF-8
pub valid_behind : (b : List ℕ) (k : ℕ) → IsValidUpTo b k → IsValidUpTo (drop k b) 0
valid_behind b k v =
    let short = v.short in
    record { short = omega (arith, length-drop k b); front = IsUtf8-nil; longest = λ m l u. v.longest (k + m) (omega arith) (longer b k m v.front u) }
