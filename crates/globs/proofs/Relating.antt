-- The pattern relation on whole texts, and the test of it.
use Rattle.std.proofs.Common.{◌≡◌, ◌∙◌, ℕ, true, List, [], ◌∷◌, Option, Some, None, sym, ap, refl, subst, true≢false}
use Rattle.std.specs.List.{AllZip}
use Rattle.std.specs.Option.{option_and_then, option_map, is_none}
use Rattle.std.specs.Str.{chars}
use Rattle.std.proofs.lemmas.Bool.{and_parts, and_from}
use Rattle.std.proofs.lemmas.Option.{same_Some, none-some}
use Rattle.globs.specs.declared.part.Part.{Part}
use Rattle.globs.specs.Component.{RelatesToName, relates_to_name}
use Rattle.globs.specs.Grammar.{Spell}
use Rattle.globs.specs.Reading.{parts_of}
use Rattle.globs.specs.Glob.{components_of, all_parts_of, glob_of, is_malformed, matches, some_matches, relates, Relates}
use Rattle.globs.proofs.Spelling.{read-spelled, spelled-read}
use Rattle.globs.proofs.Tests.{name-to, name-from}

abbrev pub SpellAll : List (List ℕ) → List (List Part) → Type 0
SpellAll texts glob = AllZip (λ component parts. Spell (chars component) parts) texts glob

abbrev joined : Option (List Part) → Option (List (List Part)) → Option (List (List Part))
joined parts others = option_and_then (λ ps. option_map (λ more. ps ∷ more) others) parts

joined-some : (first : Option (List Part)) (rest : Option (List (List Part))) (glob : List (List Part)) → joined first rest ≡ Some glob
    → (ps : List Part) × ((more : List (List Part)) × ((first ≡ Some ps) × ((rest ≡ Some more) × (ps ∷ more ≡ glob))))
joined-some None rest glob h = absurd (none-some glob h)
joined-some (Some ps) None glob h = absurd (none-some glob h)
joined-some (Some ps) (Some more) glob h = (ps, (more, (refl, (refl, same_Some (ps ∷ more) glob h))))

all-read : (texts : List (List ℕ)) (glob : List (List Part)) → all_parts_of texts ≡ Some glob → SpellAll texts glob
all-read [] glob h = subst (SpellAll []) (same_Some [] glob h) tt
all-read (text ∷ texts) glob h =
    let w = joined-some (parts_of (chars text)) (all_parts_of texts) glob h in
    subst (SpellAll (text ∷ texts)) w.1.1.1.1 (read-spelled (chars text) w.0 w.1.1.0, all-read texts w.1.0 w.1.1.1.0)

all-spelled : (texts : List (List ℕ)) (glob : List (List Part)) → SpellAll texts glob → all_parts_of texts ≡ Some glob
all-spelled [] [] sp = refl
all-spelled [] (ps ∷ glob) sp = absurd sp
all-spelled (text ∷ texts) [] sp = absurd sp
all-spelled (text ∷ texts) (ps ∷ glob) sp =
    ap (λ o. joined o (all_parts_of texts)) (spelled-read (chars text) ps sp.0) ∙ ap (λ o. joined (Some ps) o) (all-spelled texts glob sp.1)

matches-to : (glob : List (List Part)) (path : List (List ℕ)) → matches glob path ≡ true → AllZip (λ parts name. RelatesToName parts name) glob path
matches-to [] [] h = tt
matches-to [] (name ∷ names) h = absurd (true≢false (sym h))
matches-to (parts ∷ glob) [] h = absurd (true≢false (sym h))
matches-to (parts ∷ glob) (name ∷ names) h =
    let both = and_parts (relates_to_name parts name) (matches glob names) h in (name-to parts name both.0, matches-to glob names both.1)

matches-from : (glob : List (List Part)) (path : List (List ℕ)) → AllZip (λ parts name. RelatesToName parts name) glob path → matches glob path ≡ true
matches-from [] [] r = refl
matches-from [] (name ∷ names) r = absurd r
matches-from (parts ∷ glob) [] r = absurd r
matches-from (parts ∷ glob) (name ∷ names) r = and_from (relates_to_name parts name) (matches glob names) (name-from parts name r.0) (matches-from glob names r.1)

pub relates-to : (text : List ℕ) (path : List (List ℕ)) → relates text path ≡ true → Relates text path
relates-to text path h = by (glob_of text) refl h
  where
    by : (o : Option (List (List Part))) → glob_of text ≡ o → some_matches o path ≡ true → Relates text path
    by None e m = absurd (true≢false (sym m))
    by (Some glob) e m = (glob, (all-read (components_of text) glob e, matches-to glob path m))

pub relates-from : (text : List ℕ) (path : List (List ℕ)) → Relates text path → relates text path ≡ true
relates-from text path (glob, (sp, r)) = ap (λ o. some_matches o path) (all-spelled (components_of text) glob sp) ∙ matches-from glob path r

pub malformed-to : (text : List ℕ) → is_malformed text ≡ true → (glob : List (List Part)) → SpellAll (components_of text) glob → ⊥
malformed-to text h glob sp = true≢false (sym h ∙ ap (λ o. is_none o) (all-spelled (components_of text) glob sp))

pub malformed-from : (text : List ℕ) → ((glob : List (List Part)) → SpellAll (components_of text) glob → ⊥) → is_malformed text ≡ true
malformed-from text h = by (glob_of text) refl
  where
    by : (o : Option (List (List Part))) → glob_of text ≡ o → is_none o ≡ true
    by None e = refl
    by (Some glob) e = absurd (h glob (all-read (components_of text) glob e))

pub spelled-once : (cs : List ℕ) (ps qs : List Part) → Spell cs ps → Spell cs qs → ps ≡ qs
spelled-once cs ps qs p q = same_Some ps qs (sym (spelled-read cs ps p) ∙ spelled-read cs qs q)
