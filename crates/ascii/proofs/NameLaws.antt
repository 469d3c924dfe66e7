-- Laws of names: they are ASCII, and so they are text.
use Rattle.std.proofs.Common.{◌≡◌, ℕ, zero, suc, ◌<◌, Bool, true, false, List, [], ◌∷◌, refl, sym, true≢false, arith}
use Rattle.std.specs.Prelude.{IsAscii, IsUtf8}
use Rattle.std.proofs.lemmas.Bool.Decides.{nat_tests}
use Rattle.std.proofs.lemmas.Str.{IsUtf8-from_ascii}
use Rattle.ascii.specs.Names.{begins_name, is_in_name, are_in_name, is_name}

begins_name-ascii : (c : ℕ) → begins_name c ≡ true → c < 128
begins_name-ascii c h = grind (arith, nat_tests)

is_in_name-ascii : (c : ℕ) → is_in_name c ≡ true → c < 128
is_in_name-ascii c h = grind (arith, nat_tests)

IsAscii-nil : IsAscii []
IsAscii-nil i = omega arith

IsAscii-cons : (c : ℕ) (cs : List ℕ) → c < 128 → IsAscii cs → IsAscii (c ∷ cs)
IsAscii-cons c cs l h zero = l
IsAscii-cons c cs l h (suc i) = h i

are_in_name-cons : (c : ℕ) (cs : List ℕ) (b : Bool) → is_in_name c ≡ b → are_in_name (c ∷ cs) ≡ true → (is_in_name c ≡ true) × (are_in_name cs ≡ true)
are_in_name-cons c cs true e h = (e, rw e at h)
are_in_name-cons c cs false e h = absurd (true≢false (sym (rw e at h)))

are_in_name-ascii : (cs : List ℕ) → are_in_name cs ≡ true → IsAscii cs
are_in_name-ascii [] h = IsAscii-nil
are_in_name-ascii (c ∷ cs) h =
    let parts = are_in_name-cons c cs (is_in_name c) refl h in
    IsAscii-cons c cs (is_in_name-ascii c parts.0) (are_in_name-ascii cs parts.1)

is_name-cons : (c : ℕ) (cs : List ℕ) (b : Bool) → begins_name c ≡ b → is_name (c ∷ cs) ≡ true → (begins_name c ≡ true) × (are_in_name cs ≡ true)
is_name-cons c cs true e h = (e, rw e at h)
is_name-cons c cs false e h = absurd (true≢false (sym (rw e at h)))

pub is_name-utf8 : (cs : List ℕ) → is_name cs ≡ true → IsUtf8 cs
is_name-utf8 [] h = IsUtf8-from_ascii [] IsAscii-nil
is_name-utf8 (c ∷ cs) h =
    let parts = is_name-cons c cs (begins_name c) refl h in
    IsUtf8-from_ascii (c ∷ cs) (IsAscii-cons c cs (begins_name-ascii c parts.0) (are_in_name-ascii cs parts.1))
