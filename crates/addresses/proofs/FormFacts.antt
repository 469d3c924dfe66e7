-- What an address looks like.
use Rattle.std.specs.Prelude.{◌≡◌, ◌<◌, ◌*◌, ◌/◌, ◌%◌, ◌+◌, ℕ, zero, suc, true, List, [], ◌∷◌, ◌++◌, length, codes, slice_index}
use Rattle.std.proofs.Common.{ap, refl, ◌∙◌, arith, length-append}
use Rattle.std.specs.List.{list_all, AllByRecursion}
use Rattle.std.specs.Int.{to_be_bytes, w32}
use Rattle.std.proofs.lemmas.Bool.{eq-eqb}
use Rattle.sha2.specs.Sha256.{sha256, digest_bytes, final_hash, initial_hash_256}
use Rattle.sha2.proofs.Facts256.{length-sha256}
use Rattle.hex.specs.Hex.{encode_with, encode_lower, lower_digits}
use Rattle.hex.proofs.HexLemmas.{length-encode_with}
use Rattle.serde_json.specs.Data.{Data}
use Rattle.serde_json.specs.Written.{compact_text}
use Rattle.paths.proofs.FrontLaws.{both_hold}
use Rattle.operations.specs.Spelled.{is_digit, is_address}
use Rattle.addresses.specs.Address.{address_of}

digit : (k : ℕ) → k < 16 → is_digit (slice_index lower_digits k) ≡ true
digit zero lt = refl
digit (suc zero) lt = refl
digit (suc (suc zero)) lt = refl
digit (suc (suc (suc zero))) lt = refl
digit (suc (suc (suc (suc zero)))) lt = refl
digit (suc (suc (suc (suc (suc zero))))) lt = refl
digit (suc (suc (suc (suc (suc (suc zero)))))) lt = refl
digit (suc (suc (suc (suc (suc (suc (suc zero))))))) lt = refl
digit (suc (suc (suc (suc (suc (suc (suc (suc zero)))))))) lt = refl
digit (suc (suc (suc (suc (suc (suc (suc (suc (suc zero))))))))) lt = refl
digit (suc (suc (suc (suc (suc (suc (suc (suc (suc (suc zero)))))))))) lt = refl
digit (suc (suc (suc (suc (suc (suc (suc (suc (suc (suc (suc zero))))))))))) lt = refl
digit (suc (suc (suc (suc (suc (suc (suc (suc (suc (suc (suc (suc zero)))))))))))) lt = refl
digit (suc (suc (suc (suc (suc (suc (suc (suc (suc (suc (suc (suc (suc zero))))))))))))) lt = refl
digit (suc (suc (suc (suc (suc (suc (suc (suc (suc (suc (suc (suc (suc (suc zero)))))))))))))) lt = refl
digit (suc (suc (suc (suc (suc (suc (suc (suc (suc (suc (suc (suc (suc (suc (suc zero))))))))))))))) lt = refl
digit (suc (suc (suc (suc (suc (suc (suc (suc (suc (suc (suc (suc (suc (suc (suc (suc k)))))))))))))))) lt = absurd (omega arith)

digits : (xs : List ℕ) → AllByRecursion (λ b. b < 256) xs → list_all is_digit (encode_lower xs) ≡ true
unfolding encode_with
digits [] h = refl
digits (b ∷ xs) h =
    let lt : b < 256 = h.0 in
    let high : is_digit (slice_index lower_digits (b / 16)) ≡ true = digit (b / 16) (omega arith) in
    let low : is_digit (slice_index lower_digits (b % 16)) ≡ true = digit (b % 16) (omega arith) in
    both_hold _ _ high (both_hold _ _ low (digits xs h.1))

all-append : (xs ys : List ℕ) → AllByRecursion (λ b. b < 256) xs → AllByRecursion (λ b. b < 256) ys → AllByRecursion (λ b. b < 256) (xs ++ ys)
all-append [] ys h g = g
all-append (x ∷ xs) ys h g = (h.0, all-append xs ys h.1 g)

word-bytes : (n : ℕ) → AllByRecursion (λ b. b < 256) (to_be_bytes w32 n)
word-bytes n = (omega arith, (omega arith, (omega arith, (omega arith, tt))))

digest-bytes : (h : List ℕ) (n : ℕ) → AllByRecursion (λ b. b < 256) (digest_bytes h n)
unfolding digest_bytes
digest-bytes h zero = tt
digest-bytes h (suc n) = all-append (digest_bytes h n) (to_be_bytes w32 (slice_index h n)) (digest-bytes h n) (word-bytes (slice_index h n))

sha-bytes : (m : List ℕ) → AllByRecursion (λ b. b < 256) (sha256 m)
unfolding sha256
sha-bytes m = digest-bytes (final_hash initial_hash_256 m) 8

pub address-is : (d : Data) → is_address (address_of d) ≡ true
unfolding is_address address_of
address-is d =
    let long : length (encode_lower (sha256 (compact_text d))) ≡ 64 = length-encode_with lower_digits (sha256 (compact_text d)) ∙ ap (λ n. 2 * n) (length-sha256 (compact_text d)) in
    let whole : length (codes "sha256:" ++ encode_lower (sha256 (compact_text d))) ≡ 71 = length-append (codes "sha256:") (encode_lower (sha256 (compact_text d))) ∙ ap (λ n. length (codes "sha256:") + n) long in
    both_hold _ _ (eq-eqb (length (codes "sha256:" ++ encode_lower (sha256 (compact_text d)))) 71 whole) (both_hold _ _ refl (digits (sha256 (compact_text d)) (sha-bytes (compact_text d))))
