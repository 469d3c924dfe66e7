-- A `*` and a plain text behind it relate to the names that end in that text.
use Rattle.std.proofs.Common.{◌≡◌, ◌↔◌, ◌∙◌, ◌-◌, ℕ, Bool, IsTrue, true, false, true≢false, List, [], ◌∷◌, ◌++◌, Some, None, map, take, length, sym, ap, refl, inl}
use Rattle.std.specs.Bool.{MatchBool}
use Rattle.std.specs.Option.{option_and_then}
use Rattle.std.specs.Str.{chars, IsUtf8}
use Rattle.std.specs.Str.Pattern.{HasSuffixMatch, FindsTextSuffix}
use Rattle.std.proofs.Math.Utf8.{encodes}
use Rattle.std.proofs.lemmas.Str.{chars-encodes, chars-append, encodes-append, IsUtf8-take}
use Rattle.globs.specs.declared.part.Part.{Part}
use Rattle.globs.specs.declared.part.Part.TheVariants.{AnyRun, Exactly}
use Rattle.globs.specs.Component.{RelatesToName}
use Rattle.globs.specs.Grammar.{is_spelled_out}
use Rattle.globs.specs.Reading.{sign_at, step, run, finished, parts_of}
use Rattle.globs.specs.PrivateShape.{ending_parts}
use Rattle.globs.proofs.PlainNames.{outside_with, run-plain, plain-made, plain-only}

pub step-star : (parts : List Part) → step (outside_with parts) 42 ≡ Some (outside_with (parts ++ AnyRun ∷ []))
unfolding sign_at
step-star parts = refl

parts_of-ending : (cs : List ℕ) → is_spelled_out cs ≡ true → parts_of (42 ∷ cs) ≡ Some (AnyRun ∷ map (λ c. Exactly c) cs)
parts_of-ending cs h =
    ap (λ first. option_and_then finished (option_and_then (λ next. run next cs) first)) (step-star []) ∙ ap (λ found. option_and_then finished found) (run-plain (AnyRun ∷ []) cs h)

pub parts-behind : (text rest : List ℕ) (c : ℕ) (plain : Bool) → chars text ≡ c ∷ chars rest → c ≡ 42 → plain ≡ is_spelled_out (chars rest) → plain ≡ true → parts_of (chars text) ≡ Some (ending_parts rest)
parts-behind text rest c plain e star is h = ap parts_of (e ∙ ap (λ d. d ∷ chars rest) star) ∙ parts_of-ending (chars rest) (sym is ∙ h)

ends-made : (text name front : List ℕ) → IsUtf8 front → IsUtf8 name → name ≡ front ++ text → RelatesToName (ending_parts text) name
ends-made text name front utf8 whole e = (whole, (chars front, (chars text, (ap chars e ∙ chars-append front text utf8, (inl refl, plain-made (chars text))))))

ends-there : (text name : List ℕ) → IsUtf8 text → RelatesToName (ending_parts text) name → (front : List ℕ) × (name ≡ front ++ text)
ends-there text name (ds, (t, f)) ((cs, (s, e)), (piece, (rest, (whole, (any, cut))))) =
    let same : cs ≡ piece ++ rest = sym (chars-encodes cs s) ∙ ap chars e ∙ whole in
    let end : encodes rest ≡ text = ap encodes (plain-only (chars text) rest cut ∙ ap chars (sym f) ∙ chars-encodes ds t) ∙ f in
    (encodes piece, sym e ∙ ap encodes same ∙ encodes-append piece rest ∙ ap (λ l. encodes piece ++ l) end)

pub ends-both : (r : Bool) (text name : List ℕ) → IsUtf8 text → IsUtf8 name → MatchBool r (HasSuffixMatch (FindsTextSuffix text) name) (FindsTextSuffix text name None) → IsTrue r ↔ RelatesToName (ending_parts text) name
ends-both true text name t n found =
    ((λ h. ends-made text name (take (length name - found.0) name) (IsUtf8-take name (length name - found.0) n found.3) n found.1.1), λ r. refl)
ends-both false text name t n none = ((λ h. absurd (true≢false (sym h))), λ r. (let w = ends-there text name t r in absurd (none w.0 w.1)))
