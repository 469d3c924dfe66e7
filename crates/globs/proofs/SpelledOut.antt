-- A text that is spelled out relates to the path that it reads as, and to no other one.
use Rattle.std.proofs.Common.{◌≡◌, ◌↔◌, ◌∙◌, ◌-◌, ◌<◌, ◌==◌, ℕ, Bool, true, false, ◌&&◌, cond, true≢false, suc, List, [], ◌∷◌, ◌++◌, Some, map, length, get_or, codes, sym, ap, refl, subst, arith, lit<}
use Rattle.std.specs.List.{list_all, onto_first}
use Rattle.std.specs.Option.{option_and_then, option_map}
use Rattle.std.specs.Char.{IsScalar}
use Rattle.std.specs.Str.{chars, IsUtf8, is_utf8, all_scalars}
use Rattle.std.proofs.Math.Utf8.{encode, encodes}
use Rattle.std.proofs.lemmas.Bool.{and_parts, and_from, eqb-true, false_from_ne_true}
use Rattle.std.proofs.lemmas.List.{append-nil}
use Rattle.std.proofs.lemmas.List.Folds.{list_all-append}
use Rattle.std.proofs.lemmas.List.Splits.{slice_split-cons_no, length-slice_split}
use Rattle.std.proofs.lemmas.Str.{IsUtf8-from_is_utf8, is_utf8-from_IsUtf8, IsUtf8-nil, IsUtf8-append, IsUtf8-encode, chars-nil, chars_past_char, encode_ascii, inside_one, encodes-chars, scalars-chars}
use Rattle.paths.specs.Path.{is_idle, is_up, climbed}
use Rattle.paths.specs.Reading.{pieces, stepped, walked}
use Rattle.paths.proofs.ReadingLaws.{list_all-take}
use Rattle.globs.specs.Component.{plain_parts, relates_to_name}
use Rattle.globs.specs.Grammar.{is_none_of, is_spelled_out}
use Rattle.globs.specs.Glob.{components_of, all_parts_of, glob_of, matches, some_matches, relates}
use Rattle.globs.proofs.PlainNames.{parts_of-plain, relates-plain}
use Rattle.globs.proofs.Tests.{name-to, name-from}

-- bytes that are a text which is spelled out
abbrev is_own : List ℕ → Bool
is_own piece = is_utf8 piece && is_spelled_out (chars piece)

own-nil : is_own [] ≡ true
own-nil = and_from (is_utf8 []) (is_spelled_out (chars [])) (is_utf8-from_IsUtf8 [] IsUtf8-nil) (ap is_spelled_out chars-nil)

own-more : (c : ℕ) (piece : List ℕ) → IsScalar c → is_none_of (codes "*?[\\") c ≡ true → is_own piece ≡ true → is_own (encode c ++ piece) ≡ true
own-more c piece scalar none own =
    let both = and_parts (is_utf8 piece) (is_spelled_out (chars piece)) own in
    let utf8 = IsUtf8-append (encode c) piece (IsUtf8-encode c scalar) (IsUtf8-from_is_utf8 piece both.0) in
    and_from (is_utf8 (encode c ++ piece)) (is_spelled_out (chars (encode c ++ piece))) (is_utf8-from_IsUtf8 (encode c ++ piece) utf8)
    (ap is_spelled_out (chars_past_char (encode c ++ piece) piece c utf8 refl) ∙ and_from (is_none_of (codes "*?[\\") c) (is_spelled_out (chars piece)) none both.1)

-- ---- the pieces of a text

-- a front without a slash stands before the first piece
behind : (front text piece : List ℕ) (more : List (List ℕ)) → ((k : ℕ) → k < length front → get_or front k 0 ≡ 47 → ⊥) → pieces text ≡ piece ∷ more
    → pieces (front ++ text) ≡ (front ++ piece) ∷ more
behind [] text piece more other is = is
behind (b ∷ bs) text piece more other is =
    slice_split-cons_no (λ b. b == 47) b (bs ++ text) (false_from_ne_true (b == 47) (λ e. other 0 (omega arith) (eqb-true b 47 e)))
    ∙ ap (onto_first b) (behind bs text piece more (λ k l e. other (suc k) (omega arith) e) is)

first-of : (ps : List (List ℕ)) → 0 < length ps → (piece : List ℕ) × ((more : List (List ℕ)) × (ps ≡ piece ∷ more))
first-of [] l = absurd (omega arith)
first-of (piece ∷ more) l = (piece, (more, refl))

first-piece : (text : List ℕ) → (piece : List ℕ) × ((more : List (List ℕ)) × (pieces text ≡ piece ∷ more))
first-piece text = first-of (pieces text) (let e = length-slice_split (λ b. b == 47) text in omega arith)

no-slash : (c : ℕ) → (c ≡ 47 → ⊥) → (k : ℕ) → k < length (encode c) → get_or (encode c) k 0 ≡ 47 → ⊥
no-slash c other k l e = other (inside_one c [] (encode c) k (sym (append-nil (encode c))) l (omega (arith, e)) ∙ e)

own-by : (c : ℕ) (text : List ℕ) (slash : Bool) → (c == 47) ≡ slash → IsScalar c → is_none_of (codes "*?[\\") c ≡ true → list_all is_own (pieces text) ≡ true
    → list_all is_own (pieces (encode c ++ text)) ≡ true
own-by c text true is scalar none own =
    ap (λ front. list_all is_own (pieces (front ++ text))) (ap encode (eqb-true c 47 is) ∙ encode_ascii 47 (lit< tt))
    ∙ and_from (is_own []) (list_all is_own (pieces text)) own-nil own
own-by c text false is scalar none own =
    let w = first-piece text in
    let both = and_parts (is_own w.0) (list_all is_own w.1.0) (sym (ap (list_all is_own) w.1.1) ∙ own) in
    ap (list_all is_own) (behind (encode c) text w.0 w.1.0 (no-slash c (λ e. true≢false (sym (ap (λ d. d == 47) e) ∙ is))) w.1.1)
    ∙ and_from (is_own (encode c ++ w.0)) (list_all is_own w.1.0) (own-more c w.0 scalar none both.0) both.1

own-pieces : (cs : List ℕ) → all_scalars cs ≡ true → is_spelled_out cs ≡ true → list_all is_own (pieces (encodes cs)) ≡ true
own-pieces [] scalars plain = and_from (is_own []) true own-nil refl
own-pieces (c ∷ cs) scalars plain =
    let s = and_parts _ (all_scalars cs) scalars in
    let p = and_parts (is_none_of (codes "*?[\\") c) (is_spelled_out cs) plain in
    own-by c (encodes cs) (c == 47) refl s.0 p.0 (own-pieces cs s.1 p.1)

-- ---- its components

own-stepped : (p : List (List ℕ)) (piece : List ℕ) (idle up : Bool) → list_all is_own p ≡ true → is_own piece ≡ true
    → list_all is_own (cond idle p (cond up (climbed p) (p ++ piece ∷ []))) ≡ true
own-stepped p piece true up all own = all
own-stepped p piece false true all own = list_all-take is_own (length p - 1) p all
own-stepped p piece false false all own =
    list_all-append is_own p (piece ∷ []) ∙ and_from (list_all is_own p) (list_all is_own (piece ∷ [])) all (and_from (is_own piece) true own refl)

own-walked : (p ps : List (List ℕ)) → list_all is_own p ≡ true → list_all is_own ps ≡ true → list_all is_own (walked p ps) ≡ true
own-walked p [] all own = all
own-walked p (piece ∷ ps) all own =
    let both = and_parts (is_own piece) (list_all is_own ps) own in
    own-walked (stepped p piece) ps (own-stepped p piece (is_idle piece) (is_up piece) all both.0) both.1

-- ---- what these relate to

spelled : (texts : List (List ℕ)) → list_all is_own texts ≡ true → all_parts_of texts ≡ Some (map plain_parts texts)
spelled [] own = refl
spelled (text ∷ texts) own =
    let both = and_parts (is_own text) (list_all is_own texts) own in
    let plain = and_parts (is_utf8 text) (is_spelled_out (chars text)) both.0 in
    ap (λ first. option_and_then (λ parts. option_map (λ others. parts ∷ others) (all_parts_of texts)) first) (parts_of-plain (chars text) plain.1)
    ∙ ap (λ more. option_map (λ others. plain_parts text ∷ others) more) (spelled texts both.1)

utf8-own : (text : List ℕ) → is_own text ≡ true → IsUtf8 text
utf8-own text own = IsUtf8-from_is_utf8 text (and_parts (is_utf8 text) (is_spelled_out (chars text)) own).0

alone : (texts path : List (List ℕ)) → list_all is_own texts ≡ true → matches (map plain_parts texts) path ≡ true → path ≡ texts
alone [] [] own is = refl
alone [] (name ∷ names) own is = absurd (true≢false (sym is))
alone (text ∷ texts) [] own is = absurd (true≢false (sym is))
alone (text ∷ texts) (name ∷ names) own is =
    let both = and_parts (is_own text) (list_all is_own texts) own in
    let fit = and_parts (relates_to_name (plain_parts text) name) (matches (map plain_parts texts) names) is in
    let first = (relates-plain text name (utf8-own text both.0)).1 (name-to (plain_parts text) name fit.0) in
    let rest = alone texts names both.1 fit.1 in
    λ i. sym first i ∷ rest i

itself : (texts : List (List ℕ)) → list_all is_own texts ≡ true → matches (map plain_parts texts) texts ≡ true
itself [] own = refl
itself (text ∷ texts) own =
    let both = and_parts (is_own text) (list_all is_own texts) own in
    and_from (relates_to_name (plain_parts text) text) (matches (map plain_parts texts) texts)
    (name-from (plain_parts text) text ((relates-plain text text (utf8-own text both.0)).0 refl)) (itself texts both.1)

pub relates-alone : (text : List ℕ) → IsUtf8 text → is_spelled_out (chars text) ≡ true → (path : List (List ℕ)) → (relates text path ≡ true) ↔ (path ≡ components_of text)
relates-alone text utf8 plain path =
    let texts = components_of text in
    let cut = subst (λ bytes. list_all is_own (pieces bytes) ≡ true) (encodes-chars text utf8) (own-pieces (chars text) (scalars-chars text utf8) plain) in
    let own : list_all is_own texts ≡ true = own-walked [] (pieces text) refl cut in
    let is : glob_of text ≡ Some (map plain_parts texts) = spelled texts own in (
      (λ h. alone texts path own (sym (ap (λ o. some_matches o path) is) ∙ h)),
      (λ e. ap (λ o. some_matches o path) is ∙ subst (λ q. matches (map plain_parts texts) q ≡ true) (sym e) (itself texts own)),
    )
