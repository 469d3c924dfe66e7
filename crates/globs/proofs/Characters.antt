-- The first and the last character of a text.
use Rattle.std.specs.Prelude.{◌≡◌, ℕ, ◌+◌, List, [], ◌∷◌, ◌++◌, length}
use Rattle.std.proofs.Common.{sym, ap, refl, ◌∙◌, arith}
use Rattle.std.proofs.lemmas.Bool.{and_parts}
use Rattle.std.proofs.lemmas.List.{append-nil, length-append}
use Rattle.std.specs.Str.{chars, IsUtf8}
use Rattle.std.proofs.Math.Utf8.{scalar, scalars, encode, encodes}
use Rattle.std.proofs.lemmas.Str.{chars-encodes, chars-nil, encode_same, encodes-append, length-encode, len_utf8_bounds}

pub first-char : (bs r : List ℕ) (c : ℕ) → IsUtf8 bs → bs ≡ encode c ++ r → chars bs ≡ c ∷ chars r
first-char bs r c ([], (s, e)) h =
    let n : 0 ≡ length (encode c ++ r) = ap length (e ∙ h) in
    let m : length (encode c ++ r) ≡ length (encode c) + length r = length-append (encode c) r in
    let l = length-encode c in
    let b = len_utf8_bounds c in absurd (omega (arith, b.0))
first-char bs r c (d ∷ ds, (s, e)) h =
    let same = encode_same d c (encodes ds) r (e ∙ h) in
    let more = and_parts (scalar d) (scalars ds) s in
    ap chars (sym e) ∙ chars-encodes (d ∷ ds) s ∙ (λ i. same.0 i ∷ (sym (chars-encodes ds more.1) ∙ ap chars same.1) i)

pub no-char : (bs : List ℕ) → length bs ≡ 0 → chars bs ≡ []
no-char [] h = chars-nil
no-char (b ∷ bs) h = absurd (omega arith)

some-char : (c : ℕ) (r : List ℕ) → [] ≡ encode c ++ r → ⊥
some-char c r h =
    let n : 0 ≡ length (encode c ++ r) = ap length h in
    let m : length (encode c ++ r) ≡ length (encode c) + length r = length-append (encode c) r in
    let l = length-encode c in
    let b = len_utf8_bounds c in omega (arith, b.0)

encodes-same : (cs ds : List ℕ) → encodes cs ≡ encodes ds → cs ≡ ds
encodes-same [] [] h = refl
encodes-same [] (d ∷ ds) h = absurd (some-char d (encodes ds) h)
encodes-same (c ∷ cs) [] h = absurd (some-char c (encodes cs) (sym h))
encodes-same (c ∷ cs) (d ∷ ds) h =
    let same = encode_same c d (encodes cs) (encodes ds) h in
    λ i. same.0 i ∷ encodes-same cs ds same.1 i

pub last-char : (bs r : List ℕ) (c : ℕ) → IsUtf8 bs → IsUtf8 r → bs ≡ r ++ encode c → chars bs ≡ chars r ++ c ∷ []
last-char bs r c (cs, (s, e)) (rs, (t, f)) h =
    let whole : encodes cs ≡ encodes (rs ++ c ∷ []) = e ∙ h ∙ (λ i. sym f i ++ sym (append-nil (encode c)) i) ∙ sym (encodes-append rs (c ∷ [])) in
    ap chars (sym e) ∙ chars-encodes cs s ∙ encodes-same cs (rs ++ c ∷ []) whole ∙ ap (λ l. l ++ c ∷ []) (sym (chars-encodes rs t) ∙ ap chars f)

pub empty-chars : (bs : List ℕ) → IsUtf8 bs → chars bs ≡ [] → bs ≡ []
empty-chars bs (cs, (s, e)) h = sym e ∙ ap encodes (sym (chars-encodes cs s) ∙ ap chars e ∙ h)
