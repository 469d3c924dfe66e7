-- What is escaped in a JSON string, and what isn't.
use Rattle.std.proofs.Common.{◌≡◌, ℕ, true, List, [], ◌∷◌, ◌++◌, refl, sym, ap, ◌∙◌, arith, take, drop, length}
use Rattle.std.specs.List.{list_all}
use Rattle.std.proofs.lemmas.Bool.{and_parts}
use Rattle.std.proofs.lemmas.Grind.{flat_map-append}
use Rattle.std.proofs.lemmas.List.{take-append-drop}
use Rattle.json.specs.Print.{escape_byte, escape}
use Rattle.quoted.specs.Plain.{is_plain}

plain-byte : (b : ℕ) → is_plain b ≡ true → escape_byte b ≡ b ∷ []
unfolding escape_byte
plain-byte b h = grind (arith)

pub escape-plain : (s : List ℕ) → list_all is_plain s ≡ true → escape s ≡ s
escape-plain [] h = refl
escape-plain (b ∷ s) h =
    let p = and_parts (is_plain b) (list_all is_plain s) h in
    ap (λ e. e ++ escape s) (plain-byte b p.0) ∙ ap (λ e. b ∷ e) (escape-plain s p.1)

pub escape-append : (s t : List ℕ) → escape (s ++ t) ≡ escape s ++ escape t
escape-append s t = flat_map-append escape_byte s t

escape-cut : (n : ℕ) (s : List ℕ) → escape (take n s) ++ escape (drop n s) ≡ escape s
escape-cut n s = sym (escape-append (take n s) (drop n s)) ∙ ap escape (take-append-drop n s)

-- a front that stands for itself, the byte behind it, and the rest
pub escape-pieces : (rest front behind more : List ℕ) (n : ℕ) → front ≡ take n rest → behind ≡ drop n rest → more ≡ drop 1 behind → list_all is_plain (take n rest) ≡ true
    → front ++ (escape (take 1 behind) ++ escape more) ≡ escape rest
escape-pieces rest front behind more n is left then plain =
    ap (λ f. f ++ (escape (take 1 behind) ++ escape more)) (is ∙ sym (escape-plain (take n rest) plain))
    ∙ ap (λ e. escape (take n rest) ++ e) (ap (λ m. escape (take 1 behind) ++ escape m) then ∙ escape-cut 1 behind ∙ ap escape left)
    ∙ escape-cut n rest

-- no byte is said as nothing
pub escape-none : (rest : List ℕ) → length rest ≡ 0 → [] ≡ escape rest
escape-none [] none = refl
escape-none (b ∷ rest) none = absurd (omega arith)
