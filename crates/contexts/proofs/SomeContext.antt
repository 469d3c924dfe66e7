-- A list of a folder's entries and an ignore file have a context: whether a row stays can be told, and then the tree is put together from the
-- paths that it has to have.
use Rattle.std.proofs.Common.{◌≡◌, ◌∙◌, ◌<◌, ◌≤◌, ◌⊎◌, ◌||◌, ℕ, zero, suc, Bool, true, false, List, [], ◌∷◌, ◌++◌, length, Option, Some, None, sym, ap, refl, subst, inl, inr, true≢false, arith, cond}
use Rattle.std.specs.List.{list_any}
use Rattle.std.specs.Option.{is_some}
use Rattle.std.specs.Ordering.{eq_by_cmp}
use Rattle.std.specs.Prelude.{slice_get}
use Rattle.std.specs.FinMap.{empty, get, insert, get-empty, get-insert}
use Rattle.std.proofs.lemmas.Bool.{cases_lt}
use Rattle.std.proofs.lemmas.Option.{same_Some, none-some, slice_get_within}
use Rattle.paths.specs.Fronts.{is_front, fronts}
use Rattle.paths.specs.Order.{path_cmp}
use Rattle.paths.specs.OrderLaws.{path_cmp_total}
use Rattle.paths.proofs.FrontLaws.{path_same, path_itself, any-fronts}
use Rattle.trees.specs.declared.entry.Entry.{Entry}
use Rattle.trees.specs.declared.entry.Entry.TheVariants.{Directory}
use Rattle.trees.specs.TreeMap.{TreeMap, directory_meta}
use Rattle.globs.specs.Cut.{can_be_cut}
use Rattle.globs.proofs.Tests.{cut-to, cut-from}
use Rattle.ignorefile.specs.Kept.{Touches, TouchesAt, Kept}
use Rattle.ignorefile.specs.Line.{is_deep, holds, Relates}
use Rattle.ignorefile.specs.declared.line.Line.{Line}
use Rattle.trees.specs.Row.{Row, Has}
use Rattle.contexts.specs.Context.{IsListing, Stays, IsFolder, IsContext, owned}
use Rattle.contexts.proofs.OneContext.{one-folder}
use Rattle.contexts.proofs.Rows.{at-or-after, same-or-not}
use Rattle.contexts.proofs.Whole.{listed-or-not}

-- ---- whether a row stays

-- a list has a beginning of which P holds
abbrev Begins : {X : Type 0} → (List X → Type 0) → List X → Type 0
Begins P xs = (front : List _) × ((rest : List _) × ((xs ≡ front ++ rest) × P front))

nothing : {X : Type 0} (front rest : List X) → [] ≡ front ++ rest → front ≡ []
nothing [] rest e = refl
nothing (x ∷ xs) rest e = absurd cc

later : {X : Type 0} (P : List X → Type 0) (x : X) (xs : List X) → (P [] → ⊥) → (Begins (λ ys. P (x ∷ ys)) xs → ⊥)
    → (front rest : List X) → x ∷ xs ≡ front ++ rest → P front → ⊥
later P x xs not_here none [] rest e h = not_here h
later P x xs not_here none (y ∷ ys) rest e h =
    let first : y ≡ x = cc in
    let more : xs ≡ ys ++ rest = cc in
    none (ys, (rest, (more, subst (λ z. P (z ∷ ys)) first h)))

begins_or_not : {X : Type 0} (P : List X → Type 0) → ((xs : List X) → P xs ⊎ (P xs → ⊥)) → (xs : List X) → Begins P xs ⊎ (Begins P xs → ⊥)
begins_or_not P test [] = elim (test []) [
  | inl h ↦ inl ([], ([], (refl, h)))
  | inr not_here ↦ inr (λ w. not_here (subst P (nothing w.0 w.1.0 w.1.1.0) w.1.1.1))
]
begins_or_not P test (x ∷ xs) = elim (test []) [
  | inl h ↦ inl ([], (x ∷ xs, (refl, h)))
  | inr not_here ↦ elim (begins_or_not (λ ys. P (x ∷ ys)) (λ ys. test (x ∷ ys)) xs) [
    | inl w ↦ inl (x ∷ w.0, (w.1.0, (ap (λ ys. x ∷ ys) w.1.1.0, w.1.1.1)))
    | inr none ↦ inr (λ w. later P x xs not_here none w.0 w.1.0 w.1.1.0 w.1.1.1)
  ]
]

relates_or_not : (line : Line) (path : List (List ℕ)) → Relates line path ⊎ (Relates line path → ⊥)
relates_or_not line path = by (can_be_cut is_deep holds line.segments path) refl
  where
    by : (b : Bool) → can_be_cut is_deep holds line.segments path ≡ b → Relates line path ⊎ (Relates line path → ⊥)
    by true e = inl (cut-to is_deep holds line.segments path e)
    by false e = inr (λ r. true≢false (sym (cut-from is_deep holds line.segments path r) ∙ e))

touches_or_not : (line : Line) (path : List (List ℕ)) → Touches line path ⊎ (Touches line path → ⊥)
touches_or_not line path = begins_or_not (Relates line) (relates_or_not line) path

-- the last line that touches a path
record IsLast (lines : List Line) (path : List (List ℕ)) : Type 0 where
  at : ℕ
  line : Line
  there : slice_get lines at ≡ Some line
  touches : Touches line path
  last : (m : ℕ) → at < m → TouchesAt lines path m → ⊥

-- no line from this position on touches it
abbrev AreUntouched : List Line → List (List ℕ) → ℕ → Type 0
AreUntouched lines path n = (m : ℕ) → n ≤ m → TouchesAt lines path m → ⊥

less : (lines : List Line) (path : List (List ℕ)) (n : ℕ) → AreUntouched lines path (suc n) → (TouchesAt lines path n → ⊥) → AreUntouched lines path n
less lines path n none here m low t =
    elim (at-or-after n m low) [ inl same ↦ here (subst (TouchesAt lines path) same t) | inr more ↦ none m (omega (arith, more)) t ]

last_by : (lines : List Line) (path : List (List ℕ)) (n : ℕ) (o : Option Line) → slice_get lines n ≡ o → AreUntouched lines path (suc n)
    → (AreUntouched lines path n → AreUntouched lines path 0 ⊎ IsLast lines path) → AreUntouched lines path 0 ⊎ IsLast lines path
last_by lines path n None e none deeper = deeper (less lines path n none (λ t. none-some t.0 (sym e ∙ t.1.0)))
last_by lines path n (Some line) e none deeper = elim (touches_or_not line path) [
  | inl touches ↦ inr (record { at = n; line = line; there = e; touches = touches; last = λ m l t. none m (omega (arith, l)) t })
  | inr off ↦ deeper (less lines path n none (λ t. off (subst (λ (x : Line). Touches x path) (same_Some t.0 line (sym t.1.0 ∙ e)) t.1.1)))
]

last_or_none : (lines : List Line) (path : List (List ℕ)) (n : ℕ) → AreUntouched lines path n → AreUntouched lines path 0 ⊎ IsLast lines path
last_or_none lines path zero none = inl none
last_or_none lines path (suc n) none = last_by lines path n (slice_get lines n) refl none (λ more. last_or_none lines path n more)

past_all : (lines : List Line) (path : List (List ℕ)) → AreUntouched lines path (length lines)
past_all lines path m past t = let within = slice_get_within lines m t.0 t.1.0 in absurd (omega (arith, past, within))

not_kept : (lines : List Line) (path : List (List ℕ)) (l : IsLast lines path) → l.line.exception ≡ false → Kept lines path → ⊥
not_kept lines path l off (inl none) = none l.at (l.line, (l.there, l.touches))
not_kept lines path l off (inr w) = elim (cases_lt l.at w.0) [
  | inl before ↦ l.last w.0 before (w.1.0, (w.1.1.0, w.1.1.1.0))
  | inr not_before ↦ elim (cases_lt w.0 l.at) [
    | inl after ↦ w.1.1.1.1.1 l.at after (l.line, (l.there, l.touches))
    | inr not_after ↦
        let same : w.0 ≡ l.at = omega (arith, not_before, not_after) in
        let one : w.1.0 ≡ l.line = same_Some w.1.0 l.line (sym w.1.1.0 ∙ (ap (λ n. slice_get lines n) same ∙ l.there)) in
        true≢false (sym w.1.1.1.1.0 ∙ (ap (λ (x : Line). x.exception) one ∙ off))
  ]
]

kept_last : (lines : List Line) (path : List (List ℕ)) (l : IsLast lines path) (b : Bool) → l.line.exception ≡ b → Kept lines path ⊎ (Kept lines path → ⊥)
kept_last lines path l true on = inl (inr (l.at, (l.line, (l.there, (l.touches, (on, l.last))))))
kept_last lines path l false off = inr (not_kept lines path l off)

kept_or_not : (lines : List Line) (path : List (List ℕ)) → Kept lines path ⊎ (Kept lines path → ⊥)
kept_or_not lines path = elim (last_or_none lines path (length lines) (past_all lines path)) [
  | inl none ↦ inl (inl (λ n t. none n (omega arith) t))
  | inr l ↦ kept_last lines path l l.line.exception refl
]

stays_or_not : (lines : List Line) (row : Row) → Stays lines row ⊎ (Stays lines row → ⊥)
stays_or_not lines row = elim (same-or-not row.0 []) [
  | inl root ↦ inl (inl root)
  | inr other ↦ elim (kept_or_not lines row.0) [
    | inl kept ↦ inl (inr kept)
    | inr left ↦ inr (λ stays. elim stays [ inl root ↦ other root | inr kept ↦ left kept ])
  ]
]

-- ---- paths

-- a list has this path
abbrev Among : List (List (List ℕ)) → List (List ℕ) → Type 0
Among [] q = ⊥
Among (p ∷ ps) q = (p ≡ q) ⊎ Among ps q

among_left : (ps qs : List (List (List ℕ))) (q : List (List ℕ)) → Among ps q → Among (ps ++ qs) q
among_left [] qs q h = absurd h
among_left (p ∷ ps) qs q (inl same) = inl same
among_left (p ∷ ps) qs q (inr more) = inr (among_left ps qs q more)

among_right : (ps qs : List (List (List ℕ))) (q : List (List ℕ)) → Among qs q → Among (ps ++ qs) q
among_right [] qs q h = h
among_right (p ∷ ps) qs q h = inr (among_right ps qs q h)

among_cases : (ps qs : List (List (List ℕ))) (q : List (List ℕ)) → Among (ps ++ qs) q → Among ps q ⊎ Among qs q
among_cases [] qs q h = inr h
among_cases (p ∷ ps) qs q (inl same) = inl (inl same)
among_cases (p ∷ ps) qs q (inr more) = elim (among_cases ps qs q more) [ inl left ↦ inl (inr left) | inr right ↦ inr right ]

or_cases : (a b : Bool) → (a || b) ≡ true → (a ≡ true) ⊎ (b ≡ true)
or_cases true b h = inl refl
or_cases false b h = inr h

or_first : (a b : Bool) → a ≡ true → (a || b) ≡ true
or_first true b h = refl
or_first false b h = absurd (true≢false (sym h))

or_second : (a b : Bool) → b ≡ true → (a || b) ≡ true
or_second true b h = refl
or_second false b h = h

any_among : (ps : List (List (List ℕ))) (q : List (List ℕ)) → list_any (eq_by_cmp path_cmp q) ps ≡ true → Among ps q
any_among [] q h = absurd (true≢false (sym h))
any_among (p ∷ ps) q h = elim (or_cases (eq_by_cmp path_cmp q p) (list_any (eq_by_cmp path_cmp q) ps) h) [
  | inl same ↦ inl (sym (path_same q p same))
  | inr more ↦ inr (any_among ps q more)
]

among_any : (ps : List (List (List ℕ))) (q : List (List ℕ)) → Among ps q → list_any (eq_by_cmp path_cmp q) ps ≡ true
among_any [] q h = absurd h
among_any (p ∷ ps) q (inl same) =
    or_first (eq_by_cmp path_cmp q p) (list_any (eq_by_cmp path_cmp q) ps) (subst (λ (x : List (List ℕ)). eq_by_cmp path_cmp q x ≡ true) (sym same) (path_itself q))
among_any (p ∷ ps) q (inr more) = or_second (eq_by_cmp path_cmp q p) (list_any (eq_by_cmp path_cmp q) ps) (among_any ps q more)

-- the paths of some rows that stay, and those on the way to one
record Ways (lines : List Line) (some : List Row) : Type 0 where
  paths : List (List (List ℕ))
  own : (row : Row) → Has some row → Stays lines row → Among paths row.0
  ways : (row : Row) (front : List (List ℕ)) → Has some row → Stays lines row → is_front front row.0 ≡ true → Among paths front
  only : (path : List (List ℕ)) → Among paths path → (row : Row) × (Has some row × (Stays lines row × ((row.0 ≡ path) ⊎ (is_front path row.0 ≡ true))))

abbrev FromAfter : List Line → Row → List Row → List (List ℕ) → Type 0
FromAfter lines row rows path = (found : Row) × (Has (row ∷ rows) found × (Stays lines found × ((found.0 ≡ path) ⊎ (is_front path found.0 ≡ true))))

has_later : (lines : List Line) (row : Row) (rows : List Row) (path : List (List ℕ)) (more : Ways lines rows) → Among more.paths path → FromAfter lines row rows path
has_later lines row rows path more among =
    let w = more.only path among in
    (w.0, ((suc w.1.0.0, w.1.0.1), w.1.1))

ways_off : (lines : List Line) (row : Row) (rows : List Row) → (Stays lines row → ⊥) → Ways lines rows → Ways lines (row ∷ rows)
ways_off lines row rows off more = record {
  paths = more.paths;
  own = λ found has stays. own_by found has.0 has.1 stays;
  ways = λ found front has stays way. ways_by found front has.0 has.1 stays way;
  only = λ path among. has_later lines row rows path more among;
}
  where
    own_by : (found : Row) (n : ℕ) → slice_get (row ∷ rows) n ≡ Some found → Stays lines found → Among more.paths found.0
    own_by found zero there stays = absurd (off (subst (λ (r : Row). Stays lines r) (sym (same_Some row found there)) stays))
    own_by found (suc n) there stays = more.own found (n, there) stays

    ways_by : (found : Row) (front : List (List ℕ)) (n : ℕ) → slice_get (row ∷ rows) n ≡ Some found → Stays lines found → is_front front found.0 ≡ true → Among more.paths front
    ways_by found front zero there stays way = absurd (off (subst (λ (r : Row). Stays lines r) (sym (same_Some row found there)) stays))
    ways_by found front (suc n) there stays way = more.ways found front (n, there) stays way

ways_on : (lines : List Line) (row : Row) (rows : List Row) → Stays lines row → Ways lines rows → Ways lines (row ∷ rows)
ways_on lines row rows stays more = record {
  paths = row.0 ∷ (fronts row.0 ++ more.paths);
  own = λ found has kept. own_by found has.0 has.1 kept;
  ways = λ found front has kept way. ways_by found front has.0 has.1 kept way;
  only = λ path among. only_by path among;
}
  where
    front_among : (front : List (List ℕ)) → is_front front row.0 ≡ true → Among (fronts row.0) front
    front_among front way = any_among (fronts row.0) front (any-fronts front row.0 ∙ way)

    own_by : (found : Row) (n : ℕ) → slice_get (row ∷ rows) n ≡ Some found → Stays lines found → Among (row.0 ∷ (fronts row.0 ++ more.paths)) found.0
    own_by found zero there kept = inl (ap (λ (r : Row). r.0) (same_Some row found there))
    own_by found (suc n) there kept = inr (among_right (fronts row.0) more.paths found.0 (more.own found (n, there) kept))

    ways_by : (found : Row) (front : List (List ℕ)) (n : ℕ) → slice_get (row ∷ rows) n ≡ Some found → Stays lines found → is_front front found.0 ≡ true
        → Among (row.0 ∷ (fronts row.0 ++ more.paths)) front
    ways_by found front zero there kept way =
        inr (among_left (fronts row.0) more.paths front (front_among front (ap (λ (r : Row). is_front front r.0) (same_Some row found there) ∙ way)))
    ways_by found front (suc n) there kept way = inr (among_right (fronts row.0) more.paths front (more.ways found front (n, there) kept way))

    only_by : (path : List (List ℕ)) → Among (row.0 ∷ (fronts row.0 ++ more.paths)) path → FromAfter lines row rows path
    only_by path (inl same) = (row, ((0, refl), (stays, inl same)))
    only_by path (inr among) = elim (among_cases (fronts row.0) more.paths path among) [
      | inl front ↦ (row, ((0, refl), (stays, inr (sym (any-fronts path row.0) ∙ among_any (fronts row.0) path front))))
      | inr later ↦ has_later lines row rows path more later
    ]

ways_of : (lines : List Line) (rows : List Row) → Ways lines rows
ways_of lines [] = record {
  paths = [];
  own = λ row has stays. absurd (none-some row has.1);
  ways = λ row front has stays way. absurd (none-some row has.1);
  only = λ path among. absurd among;
}
ways_of lines (row ∷ rows) = elim (stays_or_not lines row) [
  | inl stays ↦ ways_on lines row rows stays (ways_of lines rows)
  | inr off ↦ ways_off lines row rows off (ways_of lines rows)
]

-- ---- the tree

-- the entries at some paths
abbrev tree_at : (List (List ℕ) → Entry) → List (List (List ℕ)) → TreeMap
tree_at f [] = empty
tree_at f (p ∷ ps) = insert (tree_at f ps) p (f p)

at_some : (f : List (List ℕ) → Entry) (ps : List (List (List ℕ))) (q : List (List ℕ)) → Among ps q → get (tree_at f ps) q ≡ Some (f q)
at_some f [] q h = absurd h
at_some f (p ∷ ps) q h =
    get-insert path_cmp_total (tree_at f ps) p (f p) q ∙ by (eq_by_cmp path_cmp q p) refl h (λ more. at_some f ps q more)
  where
    by : (b : Bool) → eq_by_cmp path_cmp q p ≡ b → (p ≡ q) ⊎ Among ps q → (Among ps q → get (tree_at f ps) q ≡ Some (f q))
        → cond (eq_by_cmp path_cmp q p) (Some (f p)) (get (tree_at f ps) q) ≡ Some (f q)
    by true e among more = ap (λ b. cond b (Some (f p)) (get (tree_at f ps) q)) e ∙ ap (λ (x : List (List ℕ)). Some (f x)) (sym (path_same q p e))
    by false e (inl same) more = absurd (true≢false (sym (subst (λ (x : List (List ℕ)). eq_by_cmp path_cmp q x ≡ true) (sym same) (path_itself q)) ∙ e))
    by false e (inr among) more = ap (λ b. cond b (Some (f p)) (get (tree_at f ps) q)) e ∙ more among

at_only : (f : List (List ℕ) → Entry) (ps : List (List (List ℕ))) (q : List (List ℕ)) → is_some (get (tree_at f ps) q) ≡ true → Among ps q
at_only f [] q some = absurd (true≢false (sym some ∙ ap (λ (o : Option Entry). is_some o) (get-empty path_cmp q)))
at_only f (p ∷ ps) q some =
    by (eq_by_cmp path_cmp q p) refl (ap (λ (o : Option Entry). is_some o) (sym (get-insert path_cmp_total (tree_at f ps) p (f p) q)) ∙ some) (λ more. at_only f ps q more)
  where
    by : (b : Bool) → eq_by_cmp path_cmp q p ≡ b → is_some (cond (eq_by_cmp path_cmp q p) (Some (f p)) (get (tree_at f ps) q)) ≡ true
        → (is_some (get (tree_at f ps) q) ≡ true → Among ps q) → (p ≡ q) ⊎ Among ps q
    by true e some_there more = inl (sym (path_same q p e))
    by false e some_there more =
        inr (more (ap (λ b. is_some (cond b (Some (f p)) (get (tree_at f ps) q))) (sym e) ∙ some_there))

-- the entry of a path that others lie under
folder : (rows : List Row) (path : List (List ℕ)) → (entry : Entry) × IsFolder rows path entry
folder rows path = elim (listed-or-not rows path) [
  | inl w ↦ (owned w.1.0.1, inl (w.1.0, ((w.0, w.1.1.0), (w.1.1.1, refl))))
  | inr none ↦ (Directory directory_meta, inr ((λ row has same. none has.0 row has.1 same), refl))
]

pub some-context : (rows : List Row) (lines : List Line) → IsListing rows → (tree : TreeMap) × IsContext rows lines tree
some-context rows lines listing =
    let ways = ways_of lines rows in
    let at = λ (path : List (List ℕ)). (folder rows path).0 in
    let paths = [] ∷ ways.paths in (
      tree_at at paths,
      record {
        stays = λ row has stays.
            at_some at paths row.0 (inr (ways.own row has stays))
            ∙ ap Some (one-folder rows lines listing row.0 (folder rows row.0).0 (owned row.1) (folder rows row.0).1 (inl (row, (has, (refl, refl)))));
        ways = λ row front has stays way. ((folder rows front).0, (at_some at paths front (inr (ways.ways row front has stays way)), (folder rows front).1));
        root = ((folder rows []).0, (at_some at paths [] (inl refl), (folder rows []).1));
        only = λ path some. elim (at_only at paths path some) [ inl root ↦ inl (sym root) | inr among ↦ inr (ways.only path among) ];
      },
    )
