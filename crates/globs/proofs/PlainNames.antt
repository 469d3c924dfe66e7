-- A component without signs of patterns is a plain name: its characters are its parts, and it relates to that name alone.
use Rattle.std.proofs.Common.{◌≡◌, ◌↔◌, ◌∙◌, ℕ, codes, true, false, List, [], ◌∷◌, ◌++◌, Some, sym, ap, refl, subst, inl, inr, true≢false, map, append_assoc, eq-eqb}
use Rattle.std.specs.Option.{option_and_then}
use Rattle.std.specs.Str.{chars, IsUtf8}
use Rattle.std.proofs.lemmas.Bool.{and_parts, eqb-true}
use Rattle.std.proofs.lemmas.List.{append-nil}
use Rattle.std.proofs.Math.Utf8.{encodes}
use Rattle.std.proofs.lemmas.Str.{chars-encodes}
use Rattle.globs.specs.declared.part.Part.{Part}
use Rattle.globs.specs.declared.part.Part.TheVariants.{Exactly}
use Rattle.globs.specs.declared.reading.State.TheVariants.{Outside}
use Rattle.globs.specs.declared.reading.Reading.{Reading}
use Rattle.globs.specs.Component.{takes_any, holds, plain_parts, RelatesToName, relates_to_name, RelatesOnlyTo}
use Rattle.globs.specs.Cut.{CanBeCut}
use Rattle.globs.specs.Grammar.{is_none_of, is_spelled_out}
use Rattle.globs.specs.Reading.{sign_at, run, finished, parts_of}
use Rattle.globs.proofs.Spelling.{says, plain-by, outside-plain}
use Rattle.globs.proofs.Tests.{name-to, name-from}

abbrev pub outside_with : List Part → Reading
outside_with parts = record { parts = parts; negated = false; ranges = []; state = Outside }

-- what a plain text leads to, with more behind it
pub run-plain-then : (parts : List Part) (cs ds : List ℕ) → is_spelled_out cs ≡ true → run (outside_with parts) (cs ++ ds) ≡ run (outside_with (parts ++ map (λ c. Exactly c) cs)) ds
run-plain-then parts [] ds h = ap (λ l. run (outside_with l) ds) (sym (append-nil parts))
run-plain-then parts (c ∷ cs) ds h =
    let both = and_parts (is_none_of (codes "*?[\\") c) (is_spelled_out cs) h in
    ap (λ r. run r (cs ++ ds)) (outside-plain (sign_at c) (outside_with parts) c (plain-by (sign_at c) c (says c) both.0))
    ∙ run-plain-then (parts ++ Exactly c ∷ []) cs ds both.1
    ∙ ap (λ l. run (outside_with l) ds) (append_assoc parts (Exactly c ∷ []) (map (λ c. Exactly c) cs))

pub run-plain : (parts : List Part) (cs : List ℕ) → is_spelled_out cs ≡ true → run (outside_with parts) cs ≡ Some (outside_with (parts ++ map (λ c. Exactly c) cs))
run-plain parts cs h = ap (λ l. run (outside_with parts) l) (sym (append-nil cs)) ∙ run-plain-then parts cs [] h

pub parts_of-plain : (cs : List ℕ) → is_spelled_out cs ≡ true → parts_of cs ≡ Some (map (λ c. Exactly c) cs)
parts_of-plain cs h = ap (λ found. option_and_then finished found) (run-plain [] cs h)

-- a plain name relates to itself alone
pub plain-made : (cs : List ℕ) → CanBeCut takes_any (λ part c. holds part c ≡ true) (map (λ c. Exactly c) cs) cs
plain-made [] = refl
plain-made (c ∷ cs) = (c ∷ [], (cs, (refl, (inr (refl, (c, (refl, eq-eqb c c refl))), plain-made cs))))

pub plain-only : (cs ds : List ℕ) → CanBeCut takes_any (λ part c. holds part c ≡ true) (map (λ c. Exactly c) cs) ds → ds ≡ cs
plain-only [] ds e = e
plain-only (c ∷ cs) ds (piece, (rest, (e, (inl any, r)))) = absurd (true≢false (sym any))
plain-only (c ∷ cs) ds (piece, (rest, (e, (inr (n, (d, (is, h))), r)))) =
    e ∙ (λ i. is i ++ plain-only cs rest r i) ∙ ap (λ x. x ∷ cs) (sym (eqb-true c d h))

-- texts with the same characters are the same text
chars-same : (bs ds : List ℕ) → IsUtf8 bs → IsUtf8 ds → chars bs ≡ chars ds → bs ≡ ds
chars-same bs ds (cs, (s, e)) (es, (t, f)) h =
    sym e ∙ ap encodes (sym (chars-encodes cs s) ∙ ap chars e ∙ h ∙ sym (ap chars f) ∙ chars-encodes es t) ∙ f

pub relates-plain : (text name : List ℕ) → IsUtf8 text → (text ≡ name) ↔ RelatesToName (plain_parts text) name
relates-plain text name t = (
  (λ e. subst (λ (l : List ℕ). RelatesToName (plain_parts text) l) e (t, plain-made (chars text))),
  (λ r. chars-same text name t r.0 (sym (plain-only (chars text) (chars name) r.1))),
)

-- it stands for that name, by the test
pub stands-plain : (parts : List Part) (text : List ℕ) → IsUtf8 text → plain_parts text ≡ parts → RelatesOnlyTo parts text
stands-plain parts text utf8 is other =
    subst (λ (own : List Part). (relates_to_name own other ≡ true) ↔ (other ≡ text)) is
    ((λ h. sym ((relates-plain text other utf8).1 (name-to (plain_parts text) other h))), (λ e. name-from (plain_parts text) other ((relates-plain text other utf8).0 (sym e))))
