-- What a pattern that relates to one path finds among the rows of a tree.
use Rattle.std.proofs.Common.{◌≡◌, ◌↔◌, ◌∙◌, ℕ, Bool, true, false, true≢false, cond, T, List, [], ◌∷◌, Option, Some, None, is_some, option_map, sym, ap, refl, subst}
use Rattle.std.specs.declared.cmp.Ordering.{Ordering}
use Rattle.std.specs.declared.cmp.Ordering.TheVariants.{Less, Equal, Greater}
use Rattle.std.specs.Ordering.{eq_by_cmp, is_eq, is_lt}
use Rattle.std.specs.FinMap.{entries, entries_sorted, get, get-entries, find}
use Rattle.std.specs.FinMap.Entries.{is_sorted, below_all}
use Rattle.std.specs.Str.{chars, IsUtf8}
use Rattle.std.proofs.lemmas.Bool.{and_parts}
use Rattle.std.proofs.lemmas.Cmp.{tied_itself}
use Rattle.std.proofs.lemmas.Option.{none-some}
use Rattle.paths.specs.Order.{path_cmp}
use Rattle.paths.specs.OrderLaws.{path_cmp_total, path_cmp-IsAntisymmetric}
use Rattle.paths.specs.declared.fault.PathLimit.{PathLimit}
use Rattle.paths.specs.Reading.{is_absolute, pieces, read_from, walked, limit_of}
use Rattle.paths.proofs.ReadingLaws.{limit_of-clean}
use Rattle.trees.specs.declared.entry.Entry.{Entry}
use Rattle.trees.specs.declared.lent_entry.LentEntry.{LentEntry}
use Rattle.trees.specs.Rows.{entry_of}
use Rattle.trees.specs.TreeMap.{TreeMap, IsTree}
use Rattle.globs.specs.Grammar.{is_spelled_out}
use Rattle.globs.specs.Glob.{components_of, relates}
use Rattle.globs.proofs.SpelledOut.{relates-alone}
use Rattle.plans.specs.Files.{matches_in}
use Rattle.vertexrun.specs.PrivateMatches.{paths_that}

-- a test holds of this path alone
abbrev IsAlone : (List (List ℕ) → Bool) → List (List ℕ) → Type 0
IsAlone test path = (other : List (List ℕ)) → (test other ≡ true) ↔ (other ≡ path)

abbrev Rows : Type 0
Rows = List (List (List ℕ) × Entry)

eq-equal : (o : Ordering) → is_eq o ≡ true → o ≡ Equal
eq-equal Less e = absurd (true≢false (sym e))
eq-equal Equal e = refl
eq-equal Greater e = absurd (true≢false (sym e))

lt-apart : (o : Ordering) → is_lt o ≡ true → is_eq o ≡ false
lt-apart Less e = refl
lt-apart Equal e = absurd (true≢false (sym e))
lt-apart Greater e = absurd (true≢false (sym e))

is-true : (b : Bool) → T b → b ≡ true
is-true true h = refl
is-true false h = absurd h

skipped : (test : List (List ℕ) → Bool) (row : List (List ℕ) × Entry) (rows : Rows) → test row.0 ≡ false → paths_that [] test (row ∷ rows) ≡ paths_that [] test rows
skipped test row rows fails = rw fails refl

taken : (test : List (List ℕ) → Bool) (row : List (List ℕ) × Entry) (rows : Rows) → test row.0 ≡ true → paths_that [] test (row ∷ rows) ≡ row.0 ∷ paths_that [] test rows
taken test row rows holds = rw holds refl

-- the test fails another path
other-fails : (test : List (List ℕ) → Bool) (path other : List (List ℕ)) → IsAlone test path → eq_by_cmp path_cmp path other ≡ false → (b : Bool) → test other ≡ b → test other ≡ false
other-fails test path other only apart true is =
    absurd (true≢false (sym (ap is_eq (tied_itself path_cmp_total path)) ∙ ap (eq_by_cmp path_cmp path) (sym ((only other).0 is)) ∙ apart))
other-fails test path other only apart false is = is

absent-at : (test : List (List ℕ) → Bool) (path : List (List ℕ)) (row : List (List ℕ) × Entry) (rows : Rows) (b : Bool) → eq_by_cmp path_cmp path row.0 ≡ b
    → IsAlone test path → cond b (Some row.1) (find path_cmp path rows) ≡ None → (find path_cmp path rows ≡ None → paths_that [] test rows ≡ [])
    → paths_that [] test (row ∷ rows) ≡ []
absent-at test path row rows true is only none rest = absurd (true≢false (ap is_some none))
absent-at test path row rows false is only none rest = skipped test row rows (other-fails test path row.0 only is (test row.0) refl) ∙ rest none

absent : (test : List (List ℕ) → Bool) (path : List (List ℕ)) (rows : Rows) → IsAlone test path → find path_cmp path rows ≡ None → paths_that [] test rows ≡ []
absent test path [] only none = refl
absent test path (row ∷ rows) only none =
    absent-at test path row rows (eq_by_cmp path_cmp path row.0) refl only none (absent test path rows only)

below-absent : (path : List (List ℕ)) (rows : Rows) → below_all path_cmp path rows ≡ true → find path_cmp path rows ≡ None
below-absent path [] below = refl
below-absent path (row ∷ rows) below =
    let both = and_parts (is_lt (path_cmp path row.0)) (below_all path_cmp path rows) below in
    ap (λ b. cond b (Some row.1) (find path_cmp path rows)) (lt-apart (path_cmp path row.0) both.0) ∙ below-absent path rows both.1

present-at : (test : List (List ℕ) → Bool) (path : List (List ℕ)) (row : List (List ℕ) × Entry) (rows : Rows) (b : Bool) → eq_by_cmp path_cmp path row.0 ≡ b
    → IsAlone test path → is_sorted path_cmp (row ∷ rows) ≡ true
    → (is_sorted path_cmp rows ≡ true → is_some (find path_cmp path rows) ≡ true → paths_that [] test rows ≡ path ∷ [])
    → is_some (cond b (Some row.1) (find path_cmp path rows)) ≡ true → paths_that [] test (row ∷ rows) ≡ path ∷ []
present-at test path row rows true is only sorted rest there =
    let both = and_parts (below_all path_cmp row.0 rows) (is_sorted path_cmp rows) sorted in
    let same : path ≡ row.0 = path_cmp-IsAntisymmetric path row.0 (eq-equal (path_cmp path row.0) is) in
    let others = absent test path rows only (ap (λ q. find path_cmp q rows) same ∙ below-absent row.0 rows both.0) in
    taken test row rows ((only row.0).1 (sym same)) ∙ (λ i. sym same i ∷ others i)
present-at test path row rows false is only sorted rest there =
    let both = and_parts (below_all path_cmp row.0 rows) (is_sorted path_cmp rows) sorted in
    skipped test row rows (other-fails test path row.0 only is (test row.0) refl) ∙ rest both.1 there

present : (test : List (List ℕ) → Bool) (path : List (List ℕ)) (rows : Rows) → IsAlone test path → is_sorted path_cmp rows ≡ true
    → is_some (find path_cmp path rows) ≡ true → paths_that [] test rows ≡ path ∷ []
present test path [] only sorted there = absurd (true≢false (sym there))
present test path (row ∷ rows) only sorted there =
    present-at test path row rows (eq_by_cmp path_cmp path row.0) refl only sorted (λ s. present test path rows only s) there

-- ---- in a tree

-- a path that is read against the root is what the pattern of this text spells out
read-components : (text : List ℕ) → read_from text [] ≡ components_of text
read-components text = by (is_absolute text)
  where
    by : (absolute : Bool) → walked (cond absolute [] []) (pieces text) ≡ walked [] (pieces text)
    by true = refl
    by false = refl

only-read : (text : List ℕ) (path : List (List ℕ)) → IsUtf8 text → is_spelled_out (chars text) ≡ true → path ≡ read_from text [] → IsAlone (relates text) path
only-read text path utf8 plain is =
    subst (IsAlone (relates text)) (sym (is ∙ read-components text)) (λ other. relates-alone text utf8 plain other)

pub found-one : (tree : TreeMap) (text : List ℕ) (path : List (List ℕ)) → IsUtf8 text → is_spelled_out (chars text) ≡ true → path ≡ read_from text [] → is_some (get tree path) ≡ true
    → path ∷ [] ≡ matches_in tree text
found-one tree text path utf8 plain is there =
    sym (present (relates text) path (entries tree) (only-read text path utf8 plain is) (is-true _ (entries_sorted tree)) (ap is_some (sym (get-entries tree path)) ∙ there))

pub found-none : (tree : TreeMap) (text : List ℕ) (path : List (List ℕ)) → IsUtf8 text → is_spelled_out (chars text) ≡ true → path ≡ read_from text [] → get tree path ≡ None
    → [] ≡ matches_in tree text
found-none tree text path utf8 plain is none =
    sym (absent (relates text) path (entries tree) (only-read text path utf8 plain is) (sym (get-entries tree path) ∙ none))

-- nothing of a tree stands at a path that breaks a limit
pub found-beyond : (tree : TreeMap) (text : List ℕ) (limit : PathLimit) → IsTree tree → IsUtf8 text → is_spelled_out (chars text) ≡ true → limit_of (read_from text []) ≡ Some limit
    → [] ≡ matches_in tree text
found-beyond tree text limit whole utf8 plain beyond = found-none tree text (read_from text []) utf8 plain refl (by (get tree (read_from text [])) refl)
  where
    by : (there : Option Entry) → get tree (read_from text []) ≡ there → get tree (read_from text []) ≡ None
    by None is = is
    by (Some entry) is = absurd (none-some limit (sym (limit_of-clean (read_from text []) (whole.clean (read_from text []) (ap is_some is))) ∙ beyond))

-- ---- what a look-up answers

pub nothing-there : (found : Option LentEntry) (there : Option Entry) → option_map entry_of found ≡ there → is_some found ≡ false → there ≡ None
nothing-there None there is none = sym is
nothing-there (Some entry) there is none = absurd (true≢false none)

pub something-there : (found : Option LentEntry) (there : Option Entry) → option_map entry_of found ≡ there → is_some found ≡ true → is_some there ≡ true
something-there None there is some = absurd (true≢false (sym some))
something-there (Some entry) there is some = ap is_some (sym is)
