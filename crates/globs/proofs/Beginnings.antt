-- A plain text and a `*` behind it relate to the names that begin with that text.
use Rattle.std.proofs.Common.{◌≡◌, ◌↔◌, ◌∙◌, ◌+◌, ◌<◌, ℕ, Bool, IsTrue, true, false, true≢false, List, [], ◌∷◌, ◌++◌, Option, Some, None, map, drop, length, get_or, sym, ap, refl, subst, inl, inr, eq-eqb, append_assoc}
use Rattle.std.specs.Bool.{MatchBool}
use Rattle.std.specs.Option.{option_and_then, IfSome}
use Rattle.std.specs.Str.{chars, IsUtf8}
use Rattle.std.specs.Str.Pattern.{HasPrefixMatch, FindsTextPrefix}
use Rattle.std.proofs.Math.Utf8.{encode, encodes}
use Rattle.std.proofs.lemmas.Bool.{eqb-true}
use Rattle.std.proofs.lemmas.List.{append-nil, drop_more, map-append}
use Rattle.std.proofs.lemmas.Str.{chars-append, encodes-append, encodes-chars}
use Rattle.globs.specs.declared.part.Part.{Part}
use Rattle.globs.specs.declared.part.Part.TheVariants.{AnyRun, Exactly}
use Rattle.globs.specs.Component.{takes_any, holds, plain_parts, RelatesToName, HasFront, BeginsWith}
use Rattle.globs.specs.Cut.{CanBeCut}
use Rattle.globs.specs.Grammar.{is_spelled_out}
use Rattle.globs.specs.Reading.{finished, parts_of}
use Rattle.globs.specs.PrivateShape.{beginning_parts}
use Rattle.globs.proofs.PlainNames.{run-plain-then}
use Rattle.globs.proofs.Endings.{step-star}

abbrev begun : List ℕ → List Part
begun cs = map (λ c. Exactly c) cs ++ AnyRun ∷ []

parts_of-beginning : (cs : List ℕ) → is_spelled_out cs ≡ true → parts_of (cs ++ 42 ∷ []) ≡ Some (begun cs)
parts_of-beginning cs h =
    ap (λ found. option_and_then finished found) (run-plain-then [] cs (42 ∷ []) h ∙ ap (λ found. option_and_then (λ next. Some next) found) (step-star (map (λ c. Exactly c) cs)))

pub parts-before : (text front : List ℕ) (c : ℕ) (plain : Bool) → chars text ≡ chars front ++ c ∷ [] → c ≡ 42 → plain ≡ is_spelled_out (chars front) → plain ≡ true → parts_of (chars text) ≡ Some (beginning_parts front)
parts-before text front c plain e star is h = ap parts_of (e ∙ ap (λ d. chars front ++ d ∷ []) star) ∙ parts_of-beginning (chars front) (sym is ∙ h)

begun-made : (cs rest : List ℕ) → CanBeCut takes_any (λ part c. holds part c ≡ true) (begun cs) (cs ++ rest)
begun-made [] rest = (rest, ([], (sym (append-nil rest), (inl refl, refl))))
begun-made (c ∷ cs) rest = (c ∷ [], (cs ++ rest, (refl, (inr (refl, (c, (refl, eq-eqb c c refl))), begun-made cs rest))))

-- a name that such parts relate to begins with these characters, whatever stands behind them
begun-only : (cs : List ℕ) (behind : List Part) (ds : List ℕ) → CanBeCut takes_any (λ part c. holds part c ≡ true) (map (λ c. Exactly c) cs ++ behind) ds → (rest : List ℕ) × (ds ≡ cs ++ rest)
begun-only [] behind ds r = (ds, refl)
begun-only (c ∷ cs) behind ds (piece, (rest, (e, (inl any, r)))) = absurd (true≢false (sym any))
begun-only (c ∷ cs) behind ds (piece, (rest, (e, (inr (n, (d, (is, h))), r)))) =
    let more = begun-only cs behind rest r in
    (more.0, e ∙ (λ i. is i ++ more.1 i) ∙ ap (λ x. x ∷ cs ++ more.0) (sym (eqb-true c d h)))

front-of : (cs : List ℕ) (behind : List Part) → HasFront (map (λ c. Exactly c) cs ++ behind) (encodes cs)
front-of cs behind name (whole, cut) =
    let more = begun-only cs behind (chars name) cut in
    (encodes more.0, sym (encodes-chars name whole) ∙ ap encodes more.1 ∙ encodes-append cs more.0)

-- so what begins with a plain text has that front
front-text : (text : List ℕ) (behind : List Part) → IsUtf8 text → HasFront (plain_parts text ++ behind) text
front-text text behind utf8 = subst (HasFront (plain_parts text ++ behind)) (encodes-chars text utf8) (front-of (chars text) behind)

pub plain-front : (text : List ℕ) → IsUtf8 text → HasFront (plain_parts text) text
plain-front text utf8 = subst (λ (parts : List Part). HasFront parts text) (append-nil (plain_parts text)) (front-text text [] utf8)

pub beginning-front : (text : List ℕ) → IsUtf8 text → HasFront (beginning_parts text) text
beginning-front text utf8 = front-text text (AnyRun ∷ []) utf8

-- and each name begins with nothing
pub no-front : (parts : List Part) → HasFront parts []
no-front parts name r = (name, refl)

begins-made : (text name rest : List ℕ) → IsUtf8 text → IsUtf8 name → name ≡ text ++ rest → RelatesToName (beginning_parts text) name
begins-made text name rest utf8 whole e =
    (whole, subst (λ (l : List ℕ). CanBeCut takes_any (λ part c. holds part c ≡ true) (begun (chars text)) l) (sym (ap chars e ∙ chars-append text rest utf8)) (begun-made (chars text) (chars rest)))

pub begins-both : (r : Bool) (text name : List ℕ) → IsUtf8 text → IsUtf8 name → MatchBool r (HasPrefixMatch (FindsTextPrefix text) name) (FindsTextPrefix text name None) → IsTrue r ↔ RelatesToName (beginning_parts text) name
begins-both true text name t n found = ((λ h. begins-made text name (drop found.0 name) t n found.1.1), λ r. refl)
begins-both false text name t n none = ((λ h. absurd (true≢false (sym h))), λ r. (let w = beginning-front text t name r in absurd (none w.0 w.1)))

-- what has a front has its first byte, if it has one
pub front-first : (parts : List Part) (front : List ℕ) (first : Option ℕ) → HasFront parts front → IfSome first (λ byte. (rest : List ℕ) × (front ≡ byte ∷ rest)) → IfSome first (λ byte. BeginsWith parts byte)
front-first parts front None has begins = tt
front-first parts front (Some byte) has begins = λ name r. (let more = has name r in (begins.0 ++ more.0, more.1 ∙ ap (λ l. l ++ more.0) begins.1))

-- ---- the front of parts, character by character

-- the text of the first parts, all of which are characters
pub record IsFrontSoFar (parts : List Part) (front : List ℕ) (at : ℕ) : Type 0 where
  pub characters : List ℕ
  pub spelled : front ≡ encodes characters
  pub taken : parts ≡ map (λ c. Exactly c) characters ++ drop at parts

pub front-start : (parts : List Part) (front : List ℕ) → front ≡ [] → IsFrontSoFar parts front 0
front-start parts front none = record { characters = []; spelled = none; taken = refl }

pub front-more : (parts : List Part) (front more : List ℕ) (at : ℕ) (part : Part) (c : ℕ) → IsFrontSoFar parts front at → at < length parts → part ≡ get_or parts at part → part ≡ Exactly c → more ≡ front ++ encode c
    → IsFrontSoFar parts more (at + 1)
front-more parts front more at part c so inside is exact pushed = record {
  characters = so.characters ++ c ∷ [];
  spelled = pushed ∙ (λ i. so.spelled i ++ sym (append-nil (encode c)) i) ∙ sym (encodes-append so.characters (c ∷ []));
  taken =
      so.taken
      ∙ ap (λ (rest : List Part). map (λ c. Exactly c) so.characters ++ rest) (drop_more parts at part inside ∙ ap (λ (x : Part). x ∷ drop (at + 1) parts) (sym is ∙ exact))
      ∙ sym (append_assoc (map (λ c. Exactly c) so.characters) (Exactly c ∷ []) (drop (at + 1) parts))
      ∙ ap (λ (own : List Part). own ++ drop (at + 1) parts) (sym (map-append (λ c. Exactly c) so.characters (c ∷ [])));
}

pub front-done : (parts : List Part) (front : List ℕ) (at : ℕ) → IsFrontSoFar parts front at → HasFront parts front
front-done parts front at so =
    subst (HasFront parts) (sym so.spelled)
    (subst (λ (all : List Part). HasFront all (encodes so.characters)) (sym so.taken) (front-of so.characters (drop at parts)))
