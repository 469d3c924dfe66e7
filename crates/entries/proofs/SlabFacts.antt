-- Small files whose bytes lie in a slab: how they are added, and how they are cut from it.
use Rattle.std.proofs.Common.{◌≡◌, ℕ, zero, suc, ◌+◌, ◌-◌, ◌/◌, ◌<◌, ◌≤◌, Bool, true, false, Option, Some, None, List, [], ◌∷◌, ◌++◌, length, take, drop, get_or, codes, is_some, nat_le, if◌then◌else◌, refl, sym, ap, subst, ◌∙◌, append_assoc, append-nil, arith}
use Rattle.std.specs.Option.{option_and_then, option_map}
use Rattle.std.proofs.lemmas.List.{drop_more, take_all, take_more}
use Rattle.rayon.proofs.ListFacts.{AllZip-append}
use Rattle.serde_json.specs.Find.{get_member}
use Rattle.trees.specs.Row.{Row}
use Rattle.entries.specs.Reading.{bytes_of}
use Rattle.entries.specs.PrivateDigits.{byte_of, pairs_of}
use Rattle.entries.specs.PrivateKeys.{AddsRows, AreRowsOf, IsRowOf, lent_text}
use Rattle.entries.specs.PrivateSlab.{if_short, short_len, IsContentOf, IsOwnOf, IsOwn, AddsOwn, AreIn}
use Rattle.entries.specs.declared.spelled.Spelled.{Spelled}
use Rattle.entries.proofs.DigitFacts.{bytes-are}
use Rattle.entries.proofs.KeyFacts.{hex_read}

-- what the prover takes for an entry outside of the list
abbrev pub nothing : Spelled
nothing = record { dir = None; gid = None; hex = None; mode = None; path = None; text = None; uid = None }

-- the number of bytes that digits spell
pub pairs-length : (text bytes : List ℕ) → pairs_of text ≡ Some bytes → length bytes ≡ length text / 2
pairs-length [] bytes e = grind (arith)
pairs-length (digit ∷ []) bytes e = grind (arith)
pairs-length (high ∷ low ∷ rest) bytes e = by (byte_of high low) (pairs_of rest) (pairs-length rest) e
  where
    by : (byte : Option ℕ) (more : Option (List ℕ)) → ((bytes : List ℕ) → more ≡ Some bytes → length bytes ≡ length rest / 2)
        → option_and_then (λ (b : ℕ). option_map (λ (bytes : List ℕ). b ∷ bytes) more) byte ≡ Some bytes → length bytes ≡ length {A = ℕ} (high ∷ low ∷ rest) / 2
    by None more known is = grind (arith)
    by (Some b) None known is = grind (arith)
    by (Some b) (Some left) known is =
        let n = known left refl in
        let l : length bytes ≡ length left + 1 = grind (arith) in
        omega (arith, n, l)

-- one file more
pub one_more_in : (spelled : List Spelled) (one : Spelled) (bytes own : List ℕ) → AreIn spelled bytes → IsOwn one own → AreIn (spelled ++ one ∷ []) (bytes ++ own)
one_more_in [] one bytes own none is = (own, [], ap (λ (l : List ℕ). l ++ own) none ∙ sym (append-nil own), is, refl)
one_more_in (first ∷ more) one bytes own (firsts, left, whole, has, are) is =
    (firsts, left ++ own, ap (λ (l : List ℕ). l ++ own) whole ∙ append_assoc firsts left own, has, one_more_in more one left own are is)

-- the next file's bytes come first
pub next_in : (spelled : List Spelled) (i : ℕ) (d : Spelled) (slab : List ℕ) → i < length spelled → AreIn (drop i spelled) slab → AreIn (get_or spelled i d ∷ drop (i + 1) spelled) slab
next_in spelled i d slab less are = subst (λ (l : List Spelled). AreIn l slab) (drop_more spelled i d less) are

-- one file more, of a list that is gone through
pub next_added : (spelled : List Spelled) (i : ℕ) (bytes new : List ℕ) → i < length spelled → AreIn (take i spelled) bytes → AddsOwn (get_or spelled i nothing) bytes new → AreIn (take (i + 1) spelled) new
next_added spelled i bytes new less are adds =
    subst (λ (l : List Spelled). AreIn l new) (sym (take_more spelled i nothing less))
    (subst (λ (l : List ℕ). AreIn (take i spelled ++ get_or spelled i nothing ∷ []) l) (sym adds.1) (one_more_in (take i spelled) (get_or spelled i nothing) bytes adds.0 are adds.2))

-- ---- the bytes that hexadecimal adds

own_of : (spelled : Spelled) (len : ℕ) (own : List ℕ) (short : Option ℕ) → short ≡ if_short len → is_some short ≡ true → length own ≡ len → IsContentOf spelled own → IsOwnOf spelled short own
own_of spelled len own None is there long has = grind (arith)
own_of spelled len own (Some n) is there long has = (long ∙ by (nat_le len 512) is, has)
  where
    by : (few : Bool) → Some n ≡ if few then Some len else None → len ≡ n
    by true e = grind (arith)
    by false e = grind (arith)

spelled_in : (front new : List ℕ) (o : Option (List ℕ)) → option_map (λ (more : List ℕ). front ++ more) o ≡ Some new → (own : List ℕ) × (o ≡ Some own) × (new ≡ front ++ own)
spelled_in front new None e = grind (arith)
spelled_in front new (Some own) e = (own, refl, grind (arith))

pub hex_added : (spelled : Spelled) (hex old new : List ℕ) (short : Option ℕ) → lent_text spelled.text ≡ None → lent_text spelled.hex ≡ Some hex
    → short ≡ short_len (lent_text spelled.text) (lent_text spelled.hex) → is_some short ≡ true → option_map (λ (more : List ℕ). old ++ more) (bytes_of hex) ≡ Some new → AddsOwn spelled old new
hex_added spelled hex old new short no_text is_hex short_is there adds =
    let own = spelled_in old new (bytes_of hex) adds in
    let long = pairs-length hex own.0 (bytes-are hex ∙ own.1) in
    let is : short ≡ if_short (length hex / 2) = short_is ∙ (λ i. short_len (no_text i) (is_hex i)) in (
      own.0,
      own.2,
      subst (λ s. IsOwnOf spelled s own.0) short_is (own_of spelled (length hex / 2) own.0 short is there long
          (λ found h. hex_read (get_member (codes "text") found) (get_member (codes "hex") found) hex (h.text ∙ ap Some no_text) (h.hex ∙ ap Some is_hex) ∙ own.1)),
    )

-- ---- rows that were added twice

split : {X : Type 0} → (at more : ℕ) (xs : List X) → take at xs ++ take more (drop at xs) ≡ take (at + more) xs
split zero more xs = let on : zero + more ≡ more = omega arith in ap (λ n. take n xs) (sym on)
split (suc n) more [] = take_all more [] (omega arith) ∙ sym (take_all (suc n + more) [] (omega arith))
split (suc n) more (x ∷ xs) = let on : suc n + more ≡ suc (n + more) = omega arith in ap (λ l. x ∷ l) (split n more xs) ∙ ap (λ k. take k (x ∷ xs)) (sym on)

pub rows_more : (spelled : List Spelled) (at end : ℕ) (old mid new : List Row) → at ≤ end → AddsRows (take at spelled) old mid → AddsRows (take (end - at) (drop at spelled)) mid new → AddsRows (take end spelled) old new
rows_more spelled at end old mid new order first second =
    let on : at + (end - at) ≡ end = omega arith in (
      first.0 ++ second.0,
      second.1 ∙ ap (λ l. l ++ second.0) first.1 ∙ append_assoc old first.0 second.0,
      subst (λ (l : List Spelled). AreRowsOf l (first.0 ++ second.0)) (split at (end - at) spelled ∙ ap (λ k. take k spelled) on)
          (AllZip-append IsRowOf (take at spelled) (take (end - at) (drop at spelled)) first.0 second.0 first.2 second.2),
    )
