-- What the names end with that a pattern relates to.
use Rattle.std.proofs.Common.{◌≡◌, ◌↔◌, ◌∙◌, ◌+◌, ◌-◌, ◌<◌, ◌≤◌, ℕ, Bool, IsTrue, true, false, true≢false, List, [], ◌∷◌, ◌++◌, Option, Some, None, map, take, length, get_or, sym, ap, refl, subst, append_assoc}
use Rattle.std.specs.Bool.{MatchBool}
use Rattle.std.specs.Option.{IfSome}
use Rattle.std.specs.Str.{chars, IsUtf8}
use Rattle.std.specs.Str.Pattern.{HasSuffixMatch, FindsTextSuffix}
use Rattle.std.proofs.Math.Utf8.{encode, encodes}
use Rattle.std.proofs.lemmas.List.{append-nil, map-append, take_more, take_all}
use Rattle.std.proofs.lemmas.Str.{encodes-append, encodes-chars}
use Rattle.globs.specs.declared.part.Part.{Part}
use Rattle.globs.specs.declared.part.Part.TheVariants.{AnyRun, Exactly}
use Rattle.globs.specs.Component.{takes_any, holds, plain_parts, RelatesToName, HasEnd, EndsWith}
use Rattle.globs.specs.Cut.{CanBeCut}
use Rattle.globs.specs.PrivateShape.{ending_parts}
use Rattle.globs.proofs.PlainNames.{plain-only}

-- what parts relate to that end in these characters ends in them, whatever stands before
ended-only : (before : List Part) (cs ds : List ℕ) → CanBeCut takes_any (λ part c. holds part c ≡ true) (before ++ map (λ c. Exactly c) cs) ds → (begin : List ℕ) × (ds ≡ begin ++ cs)
ended-only [] cs ds r = ([], plain-only cs ds r)
ended-only (part ∷ before) cs ds (piece, (rest, (e, (is, r)))) =
    let more = ended-only before cs rest r in
    (piece ++ more.0, e ∙ ap (λ l. piece ++ l) more.1 ∙ sym (append_assoc piece more.0 cs))

end-of : (before : List Part) (cs : List ℕ) → HasEnd (before ++ map (λ c. Exactly c) cs) (encodes cs)
end-of before cs name (whole, cut) =
    let more = ended-only before cs (chars name) cut in
    (encodes more.0, sym (encodes-chars name whole) ∙ ap encodes more.1 ∙ encodes-append more.0 cs)

end-text : (before : List Part) (text : List ℕ) → IsUtf8 text → HasEnd (before ++ plain_parts text) text
end-text before text utf8 = subst (HasEnd (before ++ plain_parts text)) (encodes-chars text utf8) (end-of before (chars text))

pub plain-end : (text : List ℕ) → IsUtf8 text → HasEnd (plain_parts text) text
plain-end text utf8 = end-text [] text utf8

pub ending-end : (text : List ℕ) → IsUtf8 text → HasEnd (ending_parts text) text
ending-end text utf8 = end-text (AnyRun ∷ []) text utf8

-- and each name ends with nothing
pub no-end : (parts : List Part) → HasEnd parts []
no-end parts name r = (name, sym (append-nil name))

-- what has an end has its last byte, if it has one
pub end-last : (parts : List Part) (end : List ℕ) (last : Option ℕ) → HasEnd parts end → IfSome last (λ byte. (front : List ℕ) × (end ≡ front ++ byte ∷ [])) → IfSome last (λ byte. EndsWith parts byte)
end-last parts end None has ends = tt
end-last parts end (Some byte) has ends = λ name r. (let more = has name r in (more.0 ++ ends.0, more.1 ∙ ap (λ l. more.0 ++ l) ends.1 ∙ sym (append_assoc more.0 ends.0 (byte ∷ []))))

-- the test of an end
pub end-both : (r : Bool) (end name : List ℕ) → MatchBool r (HasSuffixMatch (FindsTextSuffix end) name) (FindsTextSuffix end name None) → IsTrue r ↔ ((front : List ℕ) × (name ≡ front ++ end))
end-both true end name found = ((λ h. (take (length name - found.0) name, found.1.1)), λ r. refl)
end-both false end name none = ((λ h. absurd (true≢false (sym h))), λ w. absurd (none w.0 w.1))

-- a name with another end isn't one of the pattern's
pub unended : (r : Bool) (parts : List Part) (end name : List ℕ) → HasEnd parts end → (IsTrue r ↔ ((front : List ℕ) × (name ≡ front ++ end))) → r ≡ false → IsTrue r ↔ RelatesToName parts name
unended r parts end name has both none = ((λ h. absurd (true≢false (sym h ∙ none))), λ relates. both.1 (has name relates))

-- ---- the end of parts, character by character

-- the text of the last of the first parts, which are characters
pub record IsEndSoFar (parts : List Part) (end : List ℕ) (at : ℕ) : Type 0 where
  pub before : List Part
  pub characters : List ℕ
  pub spelled : end ≡ encodes characters
  pub taken : take at parts ≡ before ++ map (λ c. Exactly c) characters

pub end-start : (parts : List Part) (end : List ℕ) → end ≡ [] → IsEndSoFar parts end 0
end-start parts end none = record { before = []; characters = []; spelled = none; taken = refl }

pub end-more : (parts : List Part) (end more : List ℕ) (at : ℕ) (part : Part) (c : ℕ) → IsEndSoFar parts end at → at < length parts → part ≡ get_or parts at part → part ≡ Exactly c → more ≡ end ++ encode c
    → IsEndSoFar parts more (at + 1)
end-more parts end more at part c so inside is exact pushed = record {
  before = so.before;
  characters = so.characters ++ c ∷ [];
  spelled = pushed ∙ (λ i. so.spelled i ++ sym (append-nil (encode c)) i) ∙ sym (encodes-append so.characters (c ∷ []));
  taken =
      take_more parts at part inside
      ∙ (λ i. so.taken i ++ (sym is ∙ exact) i ∷ [])
      ∙ append_assoc so.before (map (λ c. Exactly c) so.characters) (Exactly c ∷ [])
      ∙ ap (λ (own : List Part). so.before ++ own) (sym (map-append (λ c. Exactly c) so.characters (c ∷ [])));
}

pub end-anew : (parts : List Part) (more : List ℕ) (at : ℕ) → more ≡ [] → IsEndSoFar parts more (at + 1)
end-anew parts more at none = record { before = take (at + 1) parts; characters = []; spelled = none; taken = sym (append-nil (take (at + 1) parts)) }

pub end-done : (parts : List Part) (end : List ℕ) (at : ℕ) → length parts ≤ at → IsEndSoFar parts end at → HasEnd parts end
end-done parts end at all so =
    subst (HasEnd parts) (sym so.spelled)
    (subst (λ (whole : List Part). HasEnd whole (encodes so.characters)) (sym so.taken ∙ take_all at parts all) (end-of so.before so.characters))
