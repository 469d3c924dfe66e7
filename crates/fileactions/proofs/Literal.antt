-- A source that is no pattern for BuildKit is one path: the only one to which its text relates.
use Rattle.std.specs.Prelude.{◌≡◌, ◌==◌, ℕ, Bool, true, false, ◌&&◌, ◌||◌, cond, T, Option, Some, List, [], ◌∷◌, ◌++◌, is_some, map, not, codes, length, nat_eq, ◌↔◌}
use Rattle.std.proofs.Common.{sym, ap, refl, ◌∙◌, subst, true≢false, inl, inr}
use Rattle.std.specs.List.{list_any, filter, AllZip}
use Rattle.std.specs.Ordering.{eq_by_cmp, is_lt, is_eq}
use Rattle.std.specs.declared.cmp.Ordering.{Ordering}
use Rattle.std.specs.declared.cmp.Ordering.TheVariants.{Less, Equal, Greater}
use Rattle.std.specs.Str.{chars, encode_utf8_all}
use Rattle.std.proofs.lemmas.Bool.{eqb-true}
use Rattle.std.proofs.lemmas.Str.{encodes-chars}
use Rattle.std.specs.FinMap.{entries, entries_sorted, get-entries, find}
use Rattle.std.specs.FinMap.Entries.{is_sorted, below_all}
use Rattle.paths.specs.Order.{path_cmp}
use Rattle.paths.specs.Path.{is_normal, rooted, text_of}
use Rattle.paths.proofs.FrontLaws.{path_itself, both_first, both_second}
use Rattle.globs.specs.declared.part.Part.{Part}
use Rattle.globs.specs.declared.part.Part.TheVariants.{AnyRun, AnyOne, Exactly, Class}
use Rattle.globs.specs.Component.{takes_any, holds, RelatesToName}
use Rattle.globs.specs.Cut.{IsPiece, CanBeCut}
use Rattle.globs.specs.Grammar.{is_none_of, SpellsCharacter, Spell}
use Rattle.globs.specs.Glob.{components_of, relates, Relates}
use Rattle.trees.specs.declared.entry.Entry.{Entry}
use Rattle.trees.specs.TreeMap.{TreeMap, IsTree}
use Rattle.plans.specs.Files.{matches_in}
use Rattle.exported.specs.Patterns.{is_sign, has_active, is_active, unescaped, name_of, begins, source_after, opening, has_globs, or_root, source_path, allows_wildcard}
use Rattle.fileactions.specs.Copies.{path_of, is_clean_text}
use Rattle.fileactions.proofs.Steps.{Path}
use Rattle.fileactions.proofs.Texts.{path_of-text, clean-text}

both-false : (a b : Bool) → (a || b) ≡ false → (a ≡ false) × (b ≡ false)
both-false true b e = absurd (true≢false e)
both-false false b e = (refl, e)

-- ---- what a component without a sign spells

plain-sign : (c : ℕ) → is_none_of (codes "*?[\\") c ≡ true → (is_sign c ≡ false) × ((c == 92) ≡ false)
unfolding is_sign
plain-sign c none = by (nat_eq c 42) refl (nat_eq c 63) refl (nat_eq c 91) refl (nat_eq c 92) refl none
  where
    by : (a : Bool) → nat_eq c 42 ≡ a → (b : Bool) → nat_eq c 63 ≡ b → (d : Bool) → nat_eq c 91 ≡ d → (e : Bool) → nat_eq c 92 ≡ e
        → not (a || (b || (d || (e || false)))) ≡ true → ((a || (b || d)) ≡ false) × (e ≡ false)
    by true p b q d r e s h = absurd (true≢false (sym h))
    by false p true q d r e s h = absurd (true≢false (sym h))
    by false p false q true r e s h = absurd (true≢false (sym h))
    by false p false q false r true s h = absurd (true≢false (sym h))
    by false p false q false r false s h = (refl, refl)

spell-plain : (parts : List Part) (cs : List ℕ) → Spell cs parts → has_active false cs ≡ false → parts ≡ map (λ c. Exactly c) (unescaped false cs)
unfolding is_sign
spell-plain [] cs spelled none = ap (λ ds. map (λ c. Exactly c) (unescaped false ds)) (sym spelled)
spell-plain (AnyRun ∷ parts) cs spelled none = absurd (true≢false (sym (ap (has_active false) (spelled.1.1.0 ∙ ap (λ f. f ++ spelled.1.0) spelled.1.1.1.0)) ∙ none))
spell-plain (AnyOne ∷ parts) cs spelled none = absurd (true≢false (sym (ap (has_active false) (spelled.1.1.0 ∙ ap (λ f. f ++ spelled.1.0) spelled.1.1.1.0)) ∙ none))
spell-plain (Class negated ranges ∷ parts) cs spelled none = absurd (true≢false (sym (ap (has_active false) (spelled.1.1.0 ∙ ap (λ f. f ++ spelled.1.0) spelled.1.1.1.0.1.0)) ∙ none))
spell-plain (Exactly c ∷ parts) cs spelled none = by spelled.1.1.1.0 (spell-plain parts spelled.1.0 spelled.1.1.1.1)
  where
    rest : List ℕ
    rest = spelled.1.0

    by : SpellsCharacter (codes "*?[\\") spelled.0 c → (has_active false rest ≡ false → parts ≡ map (λ d. Exactly d) (unescaped false rest)) → Exactly c ∷ parts ≡ map (λ d. Exactly d) (unescaped false cs)
    by (inl plain) more =
        let whole : cs ≡ c ∷ rest = spelled.1.1.0 ∙ ap (λ f. f ++ rest) plain.0 in
        let signs = plain-sign c plain.1 in
        let off : has_active false rest ≡ false = (λ i. cond (sym signs.0 i) true (has_active (sym signs.1 i) rest)) ∙ (ap (has_active false) (sym whole) ∙ none) in
        (λ i. Exactly c ∷ more off i)
        ∙ (λ i. map (λ d. Exactly d) (cond (sym signs.1 i) (unescaped true rest) (c ∷ unescaped false rest)))
        ∙ ap (λ ds. map (λ d. Exactly d) (unescaped false ds)) (sym whole)
    by (inr escaped) more =
        let whole : cs ≡ 92 ∷ c ∷ rest = spelled.1.1.0 ∙ ap (λ f. f ++ rest) escaped in
        (λ i. Exactly c ∷ more (ap (has_active false) (sym whole) ∙ none) i) ∙ ap (λ ds. map (λ d. Exactly d) (unescaped false ds)) (sym whole)

cut-plain : (ds items : List ℕ) → CanBeCut takes_any (λ part c. holds part c ≡ true) (map (λ d. Exactly d) ds) items → items ≡ ds
cut-plain [] items cut = cut
cut-plain (d ∷ ds) items cut = by cut.1.1.1.0 (cut-plain ds cut.1.0 cut.1.1.1.1)
  where
    by : IsPiece takes_any (λ part c. holds part c ≡ true) (Exactly d) cut.0 → cut.1.0 ≡ ds → items ≡ d ∷ ds
    by (inl any) more = absurd (true≢false (sym any))
    by (inr one) more = cut.1.1.0 ∙ ap (λ piece. piece ++ cut.1.0) one.1.1.0 ∙ (λ i. sym (eqb-true d one.1.0 one.1.1.1) i ∷ more i)

-- ---- the one path

-- a component without a sign relates to the name that it spells alone
pub related-name : (component : List ℕ) (parts : List Part) (name : List ℕ) → Spell (chars component) parts → RelatesToName parts name → is_active component ≡ false → name ≡ name_of component
related-name component parts name spell relate none =
    let ds : List ℕ = unescaped false (chars component) in
    let cut : CanBeCut takes_any (λ part c. holds part c ≡ true) (map (λ d. Exactly d) ds) (chars name) =
    subst (λ (ps : List Part). CanBeCut takes_any (λ part c. holds part c ≡ true) ps (chars name)) (spell-plain parts (chars component) spell none) relate.1 in
    sym (encodes-chars name relate.0) ∙ ap encode_utf8_all (cut-plain ds (chars name) cut)

related-names : (components : List (List ℕ)) (glob : List (List Part)) (path : Path) → AllZip (λ component parts. Spell (chars component) parts) components glob
    → AllZip (λ parts name. RelatesToName parts name) glob path → list_any is_active components ≡ false → path ≡ map name_of components
related-names [] [] [] spell relate none = refl
related-names [] [] (name ∷ path) spell relate none = absurd relate
related-names [] (parts ∷ glob) path spell relate none = absurd spell
related-names (component ∷ components) [] path spell relate none = absurd spell
related-names (component ∷ components) (parts ∷ glob) [] spell relate none = absurd relate
related-names (component ∷ components) (parts ∷ glob) (name ∷ path) spell relate none =
    let both = both-false (is_active component) (list_any is_active components) none in
    let first = related-name component parts name spell.0 relate.0 both.0 in
    let rest = related-names components glob path spell.1 relate.1 both.1 in
    λ i. first i ∷ rest i

pub no-sign : (globs : Bool) (component : List ℕ) → begins globs component ≡ false → is_active component ≡ false
unfolding begins
no-sign globs component none = by (is_active component) refl none
  where
    by : (a : Bool) → is_active component ≡ a → cond a true (cond (is_normal (name_of component)) (globs && list_any is_sign (name_of component)) true) ≡ false → a ≡ false
    by true e h = absurd (true≢false h)
    by false e h = refl

no-signs : (globs : Bool) (components : List (List ℕ)) → list_any (begins globs) components ≡ false → list_any is_active components ≡ false
no-signs globs [] none = refl
no-signs globs (component ∷ components) none =
    let both = both-false (begins globs component) (list_any (begins globs) components) none in
    λ i. no-sign globs component both.0 i || no-signs globs components both.1 i

source-names : (globs : Bool) (components : List (List ℕ)) → list_any (begins globs) components ≡ false → source_after globs components ≡ rooted (map name_of components)
source-names globs [] none = refl
source-names globs (component ∷ components) none =
    let both = both-false (begins globs component) (list_any (begins globs) components) none in
    λ i. 47 ∷ cond (both.0 i) (opening component ++ rooted components) (name_of component ++ source-names globs components both.1 i)

root-text : (names : Path) → or_root (rooted names) ≡ text_of names
root-text [] = refl
root-text (name ∷ names) = refl

is-true : (b : Bool) → T b → b ≡ true
is-true true h = refl
is-true false h = absurd h

module _ (names : Path) (test : Path → Bool) (only : (q : Path) → test q ≡ true → q ≡ names) where
  abbrev picked : List (Path × Entry) → List Path
  picked rows = map (λ row. row.0) (filter (λ row. test row.0) rows)

  not-below : is_lt (path_cmp names names) ≡ true → ⊥
  not-below l = by (path_cmp names names) l (path_itself names)
    where
      by : (o : Ordering) → is_lt o ≡ true → is_eq o ≡ true → ⊥
      by Less l e = true≢false (sym e)
      by Equal l e = true≢false (sym l)
      by Greater l e = true≢false (sym l)

  none-later : (rows : List (Path × Entry)) → below_all path_cmp names rows ≡ true → picked rows ≡ []
  none-later [] lower = refl
  none-later (row ∷ rows) lower = by (test row.0) refl (none-later rows (both_second (is_lt (path_cmp names row.0)) _ lower))
    where
      by : (b : Bool) → test row.0 ≡ b → picked rows ≡ [] → map (λ r. r.0) (cond b (row ∷ filter (λ r. test r.0) rows) (filter (λ r. test r.0) rows)) ≡ []
      by true t rest = absurd (not-below (ap (λ q. is_lt (path_cmp names q)) (sym (only row.0 t)) ∙ both_first _ _ lower))
      by false t rest = rest

  -- at most one path passes, and it is found where one does
  found-one : (rows : List (Path × Entry)) → is_sorted path_cmp rows ≡ true → (length (picked rows) == 0) ≡ false → (picked rows ≡ names ∷ []) × (is_some (find path_cmp names rows) ≡ true)
  found-one [] sorted some = absurd (true≢false some)
  found-one (row ∷ rows) sorted some = by (test row.0) refl some (found-one rows (both_second (below_all path_cmp row.0 rows) _ sorted))
    where
      kept : (b : Bool) (o : Option Entry) → is_some o ≡ true → is_some (cond b (Some row.1) o) ≡ true
      kept true o s = refl
      kept false o s = s

      by : (b : Bool) → test row.0 ≡ b → (length (map (λ r. r.0) (cond b (row ∷ filter (λ r. test r.0) rows) (filter (λ r. test r.0) rows))) == 0) ≡ false
          → ((length (picked rows) == 0) ≡ false → (picked rows ≡ names ∷ []) × (is_some (find path_cmp names rows) ≡ true))
          → (map (λ r. r.0) (cond b (row ∷ filter (λ r. test r.0) rows) (filter (λ r. test r.0) rows)) ≡ names ∷ []) × (is_some (find path_cmp names (row ∷ rows)) ≡ true)
      by true t s later =
          let same : row.0 ≡ names = only row.0 t in (
            (λ i. same i ∷ none-later rows (ap (λ q. below_all path_cmp q rows) (sym same) ∙ both_first _ _ sorted) i),
            ap (λ q. is_some (cond (eq_by_cmp path_cmp names q) (Some row.1) (find path_cmp names rows))) same ∙ ap (λ b. is_some (cond b (Some row.1) (find path_cmp names rows))) (path_itself names),
          )
      by false t s later = let both = later s in (both.0, kept (eq_by_cmp path_cmp names row.0) (find path_cmp names rows) both.1)

module _ (lawful : (text : List ℕ) (path : Path) → (relates text path ≡ true) ↔ Relates text path) (from : TreeMap) (is : IsTree from) where
  -- a source that BuildKit isn't told to take for a pattern is found where it says
  pub literal : (text : List ℕ) → allows_wildcard text ≡ false → (length (matches_in from text) == 0) ≡ false → (matches_in from text ≡ path_of (source_path text) ∷ []) × (is_clean_text (source_path text) ≡ true)
  unfolding allows_wildcard source_path
  literal text none some =
      let components : List (List ℕ) = components_of text in
      let names : Path = map name_of components in
      let only : (q : Path) → relates text q ≡ true → q ≡ names =
      λ q h. let r = (lawful text q).0 h in related-names components r.0 q r.1.0 r.1.1 (no-signs (has_globs text) components none) in
      let found = found-one names (relates text) only (entries from) (is-true _ (entries_sorted from)) some in
      let clean = is.clean names (ap is_some (get-entries from names) ∙ found.1) in
      let source : or_root (source_after (has_globs text) components) ≡ text_of names = ap or_root (source-names (has_globs text) components none) ∙ root-text names in
      (found.0 ∙ ap (λ p. p ∷ []) (sym (ap path_of source ∙ path_of-text names clean.names)), ap is_clean_text source ∙ clean-text names clean.names)
