-- The steps of a walk: it enters what comes next, and leaves a folder that has nothing left.
use Rattle.std.specs.Prelude.{◌≡◌, ℕ, zero, suc, ◌+◌, ◌-◌, ◌<◌, ◌≤◌, Bool, true, false, IsTrue, Option, Some, None, List, [], ◌∷◌, ◌++◌, length, take, drop, is_some, IsSome, vec_len, vec_capacity}
use Rattle.std.proofs.Common.{sym, ap, refl, ◌∙◌, subst, true≢false, arith, length-append, append-nil, Bor}
use Rattle.std.proofs.lemmas.List.{map-append, length-map, take-take, take_at}
use Rattle.std.specs.List.{AllByRecursion}
use Rattle.std.specs.Option.{option_to_list}
use Rattle.std.specs.FinMap.{get, insert, empty, entries, get-entries, entries-insert}
use Rattle.std.specs.FinMap.Entries.{below_all, put}
use Rattle.std.specs.declared.vec.Vec.{Vec}
use Rattle.plain.specs.Limits.{most_components}
use Rattle.paths.specs.Path.{IsClean}
use Rattle.paths.specs.Order.{path_cmp}
use Rattle.paths.specs.OrderLaws.{path_cmp_total}
use Rattle.trees.specs.declared.entry.Entry.{Entry}
use Rattle.trees.specs.TreeMap.{TreeMap, IsTree}
use Rattle.trees.specs.Rows.{lent_names}
use Rattle.trees.specs.PrivateNode.{NodeValue, map_of, below_name, IsDepth}
use Rattle.trees.specs.PrivateWalk.{rows_of, rows_left, left_below_root, IsBare, AreBare, ArePassed, IsOnWay, IsAtFolder}
use Rattle.trees.proofs.BranchLaws.{clean-rows, found-all, own-first}
use Rattle.trees.proofs.NodeLaws.{get-map_of_root, get-map_of_cons}
use Rattle.trees.proofs.KidLists.{keys-from_sorted}
use Rattle.trees.proofs.RowLists.{entries-kids}

-- what comes next is given, and the walk goes on below it
rows_left-enter : (names : List (List ℕ)) (above : List (List (List ℕ × NodeValue))) (name : List ℕ) (kid : NodeValue) (rest below : List (List ℕ × NodeValue)) → length names ≡ length above → entries (map_of kid) ≡ ([], kid.top) ∷ rows_of below
    → rows_left names above ((name, kid) ∷ rest) ≡ (names ++ name ∷ [], kid.top) ∷ rows_left (names ++ name ∷ []) (above ++ rest ∷ []) below
rows_left-enter [] [] name kid rest below level own = ap (λ rows. below_name name rows ++ rows_of rest) own
rows_left-enter [] (first ∷ above) name kid rest below level own = absurd (omega arith)
rows_left-enter (n ∷ names) [] name kid rest below level own = absurd (omega arith)
rows_left-enter (n ∷ names) (first ∷ above) name kid rest below level own =
    ap (λ rows. below_name n rows ++ rows_of first) (rows_left-enter names above name kid rest below (omega arith) own)

-- a folder with nothing left is left
rows_left-leave : (names : List (List ℕ)) (above : List (List (List ℕ × NodeValue))) (name : List ℕ) (left : List (List ℕ × NodeValue)) → length names ≡ length above → rows_left (names ++ name ∷ []) (above ++ left ∷ []) [] ≡ rows_left names above left
rows_left-leave [] [] name left level = refl
rows_left-leave [] (first ∷ above) name left level = absurd (omega arith)
rows_left-leave (n ∷ names) [] name left level = absurd (omega arith)
rows_left-leave (n ∷ names) (first ∷ above) name left level = ap (λ rows. below_name n rows ++ rows_of first) (rows_left-leave names above name left (omega arith))

-- a name behind those of the folders doesn't count
rows_left-past : (names : List (List ℕ)) (above : List (List (List ℕ × NodeValue))) (name : List ℕ) (kids : List (List ℕ × NodeValue)) → length names ≡ length above → rows_left (names ++ name ∷ []) above kids ≡ rows_left names above kids
rows_left-past [] [] name kids level = refl
rows_left-past [] (first ∷ above) name kids level = absurd (omega arith)
rows_left-past (n ∷ names) [] name kids level = absurd (omega arith)
rows_left-past (n ∷ names) (first ∷ above) name kids level = ap (λ rows. below_name n rows ++ rows_of first) (rows_left-past names above name kids (omega arith))

-- what comes next and has nothing below it is given, and the walk goes on beside it
rows_left-bare : (names : List (List ℕ)) (above : List (List (List ℕ × NodeValue))) (name : List ℕ) (kid : NodeValue) (rest : List (List ℕ × NodeValue)) → length names ≡ length above → IsBare kid
    → rows_left names above ((name, kid) ∷ rest) ≡ (names ++ name ∷ [], kid.top) ∷ rows_left (names ++ name ∷ []) above rest
rows_left-bare names above name kid rest level bare =
    rows_left-enter names above name kid rest [] level bare
    ∙ ap (λ rows. (names ++ name ∷ [], kid.top) ∷ rows) (rows_left-leave names above name rest level ∙ sym (rows_left-past names above name rest level))

-- the first row that is left, whatever is below it
rows_left-first : (names : List (List ℕ)) (above : List (List (List ℕ × NodeValue))) (name : List ℕ) (kid : NodeValue) (rest : List (List ℕ × NodeValue)) (below : List (List (List ℕ) × Entry)) → length names ≡ length above → entries (map_of kid) ≡ ([], kid.top) ∷ below
    → (more : List (List (List ℕ) × Entry)) × (rows_left names above ((name, kid) ∷ rest) ≡ (names ++ name ∷ [], kid.top) ∷ more)
rows_left-first [] [] name kid rest below level own = (below_name name below ++ rows_of rest, ap (λ rows. below_name name rows ++ rows_of rest) own)
rows_left-first [] (first ∷ above) name kid rest below level own = absurd (omega arith)
rows_left-first (n ∷ names) [] name kid rest below level own = absurd (omega arith)
rows_left-first (n ∷ names) (first ∷ above) name kid rest below level own =
    let more = rows_left-first names above name kid rest below (omega arith) own in
    (below_name n more.0 ++ rows_of first, ap (λ rows. below_name n rows ++ rows_of first) more.1)

lent_names-append : (names : List (Bor (List ℕ))) (name : Bor (List ℕ)) → lent_names (names ++ name ∷ []) ≡ lent_names names ++ name.now ∷ []
lent_names-append names name = map-append (λ (n : Bor (List ℕ)). n.now) names (name ∷ [])

length-lent_names : (names : List (Bor (List ℕ))) → length (lent_names names) ≡ length names
length-lent_names names = length-map names (λ (n : Bor (List ℕ)). n.now)

-- the first names of a list that are as many as these are these
are_first-append : (names : List (Bor (List ℕ))) (more : List (Bor (List ℕ))) → take (length names) (lent_names (names ++ more)) ≡ lent_names names
are_first-append names more =
    ap (take (length names)) (map-append (λ (n : Bor (List ℕ)). n.now) names more)
    ∙ take_at (lent_names names) (lent_names more) (length names) (length-lent_names names)

-- ---- one entry is given

-- the rows before and after
enters : (names names' : List (Bor (List ℕ))) (above above' : List (List (List ℕ × NodeValue))) (kids rest below left : List (List ℕ × NodeValue)) (name : Bor (List ℕ)) (kid : NodeValue) (entry : Entry) → length names ≡ length above → kids ≡ (name.now, kid) ∷ rest → entries (map_of kid) ≡ ([], kid.top) ∷ rows_of below
    → left ≡ rest → above' ≡ above ++ left ∷ [] → names' ≡ names ++ name ∷ [] → entry ≡ kid.top → rows_left (lent_names names) above kids ≡ (lent_names names', entry) ∷ rows_left (lent_names names') above' below
enters names names' above above' kids rest below left name kid entry level next own same pushed named is =
    ap (rows_left (lent_names names) above) next
    ∙ rows_left-enter (lent_names names) above name.now kid rest below (length-lent_names names ∙ level) own
    ∙ (λ i. (on_way i, sym is i) ∷ rows_left (on_way i) ((ap (λ l. above ++ l ∷ []) (sym same) ∙ sym pushed) i) below)
  where
    on_way : lent_names names ++ name.now ∷ [] ≡ lent_names names'
    on_way = sym (ap lent_names named ∙ lent_names-append names name)

-- the same, where nothing is below it
passes : (names names' : List (Bor (List ℕ))) (above : List (List (List ℕ × NodeValue))) (kids rest : List (List ℕ × NodeValue)) (name : Bor (List ℕ)) (kid : NodeValue) (entry : Entry) → length names ≡ length above → kids ≡ (name.now, kid) ∷ rest → IsBare kid
    → names' ≡ names ++ name ∷ [] → entry ≡ kid.top → rows_left (lent_names names) above kids ≡ (lent_names names', entry) ∷ rows_left (lent_names names') above rest
passes names names' above kids rest name kid entry level next bare named is =
    ap (rows_left (lent_names names) above) next
    ∙ rows_left-bare (lent_names names) above name.now kid rest (length-lent_names names ∙ level) bare
    ∙ (λ i. (on_way i, sym is i) ∷ rows_left (on_way i) above rest)
  where
    on_way : lent_names names ++ name.now ∷ [] ≡ lent_names names'
    on_way = sym (ap lent_names named ∙ lent_names-append names name)

-- there is room for it
pub has_room : {Z : Type 0} (names : Vec (Bor (List ℕ)) Z) (above : Vec (List (List ℕ × NodeValue)) Z) (kids rest : List (List ℕ × NodeValue)) (are_bare : Bool) (name : Bor (List ℕ)) (kid : NodeValue) → IsOnWay names above kids are_bare → length names.items ≡ length above.items → kids ≡ (name.now, kid) ∷ rest
    → (vec_len names < vec_capacity names) × (vec_len above < vec_capacity above)
has_room names above kids rest are_bare name kid way level next =
    let own = own-first (map_of kid) kid.top (get-map_of_root kid) in
    let first = rows_left-first (lent_names names.items) above.items name.now kid rest own.below (length-lent_names names.items ∙ level) own.whole in
    let all : AllByRecursion (λ (row : List (List ℕ) × Entry). IsClean row.0) ((lent_names names.items ++ name.now ∷ [], kid.top) ∷ first.0)
    = subst (AllByRecursion (λ (row : List (List ℕ) × Entry). IsClean row.0)) (ap (rows_left (lent_names names.items) above.items) next ∙ first.1) way.clean in
    let few : length (lent_names names.items ++ name.now ∷ []) ≤ 64 = all.0.few in
    let one : length (lent_names names.items ++ name.now ∷ []) ≡ length (lent_names names.items) + 1 = length-append (lent_names names.items) (name.now ∷ []) in
    let many = length-lent_names names.items in
    let names_len = names.ok.0 in
    let above_len = above.ok.0 in
    let names_room : 64 ≤ vec_capacity names = way.room_names in
    let above_room : 64 ≤ vec_capacity above = way.room_above in
    (omega arith, omega arith)

-- what is known to have nothing below it has nothing below it
pub is_known : {Z : Type 0} (names : Vec (Bor (List ℕ)) Z) (above : Vec (List (List ℕ × NodeValue)) Z) (kids rest : List (List ℕ × NodeValue)) (are_bare : Bool) (name : Bor (List ℕ)) (kid : NodeValue) → IsOnWay names above kids are_bare → kids ≡ (name.now, kid) ∷ rest → IsTrue are_bare → IsBare kid
is_known names above kids rest are_bare name kid way next bare = (subst AreBare next (way.bare bare)).0

-- and the walk is on its way
goes_on : {Z : Type 0} (names names' : Vec (Bor (List ℕ)) Z) (above above' : Vec (List (List ℕ × NodeValue)) Z) (kids below left : List (List ℕ × NodeValue)) (are_bare are_bare' : Bool) (name : Bor (List ℕ)) (entry : Entry) → IsOnWay names above kids are_bare → length names.items ≡ length above.items
    → above'.items ≡ above.items ++ left ∷ [] → names'.items ≡ names.items ++ name ∷ [] → vec_capacity above ≤ vec_capacity above' → vec_capacity names ≤ vec_capacity names' → (IsTrue are_bare' → AreBare below)
    → rows_left (lent_names names.items) above.items kids ≡ (lent_names names'.items, entry) ∷ rows_left (lent_names names'.items) above'.items below → IsOnWay names' above' below are_bare'
goes_on names names' above above' kids below left are_bare are_bare' name entry way level pushed named more_above more_names bare rows =
    let one : length above'.items ≡ length above.items + 1 = ap length pushed ∙ length-append above.items (left ∷ []) in
    let two : length names'.items ≡ length names.items + 1 = ap length named ∙ length-append names.items (name ∷ []) in
    let room_names = way.room_names in
    let room_above = way.room_above in
    record {
      least = omega arith;
      most = omega arith;
      clean = (subst (AllByRecursion (λ (row : List (List ℕ) × Entry). IsClean row.0)) rows way.clean).1;
      bare = bare;
      room_names = omega arith;
      room_above = omega arith;
    }

-- a walk before and after an entry is given
pub record Gives {Z : Type 0} (names names' : Vec (Bor (List ℕ)) Z) (above above' : Vec (List (List ℕ × NodeValue)) Z) (kids kids' : List (List ℕ × NodeValue)) (are_bare' : Bool) (entry : Entry) : Type 0 where
  pub way : IsOnWay names' above' kids' are_bare'
  pub rows : left_below_root names above kids ≡ (lent_names names'.items, entry) ∷ left_below_root names' above' kids'

pub gives_on : {Z : Type 0} (names names' : Vec (Bor (List ℕ)) Z) (above above' : Vec (List (List ℕ × NodeValue)) Z) (kids rest below left : List (List ℕ × NodeValue)) (are_bare are_bare' : Bool) (name : Bor (List ℕ)) (kid : NodeValue) (entry : Entry) → IsOnWay names above kids are_bare → length names.items ≡ length above.items
    → kids ≡ (name.now, kid) ∷ rest → entries (map_of kid) ≡ ([], kid.top) ∷ rows_of below → left ≡ rest → above'.items ≡ above.items ++ left ∷ [] → names'.items ≡ names.items ++ name ∷ [] → vec_capacity above ≤ vec_capacity above' → vec_capacity names ≤ vec_capacity names' → (IsTrue are_bare' → AreBare below)
    → entry ≡ kid.top → Gives names names' above above' kids below are_bare' entry
gives_on names names' above above' kids rest below left are_bare are_bare' name kid entry way level next own same pushed named more_above more_names bare is =
    let rows = enters names.items names'.items above.items above'.items kids rest below left name kid entry level next own same pushed named is in
    record { way = goes_on names names' above above' kids below left are_bare are_bare' name entry way level pushed named more_above more_names bare rows; rows = rows }

pub gives_past : {Z : Type 0} (names names' : Vec (Bor (List ℕ)) Z) (above : Vec (List (List ℕ × NodeValue)) Z) (kids rest : List (List ℕ × NodeValue)) (are_bare : Bool) (name : Bor (List ℕ)) (kid : NodeValue) (entry : Entry) → IsOnWay names above kids are_bare → length names.items ≡ length above.items → kids ≡ (name.now, kid) ∷ rest
    → IsBare kid → names'.items ≡ names.items ++ name ∷ [] → vec_capacity names ≤ vec_capacity names' → entry ≡ kid.top → Gives names names' above above kids rest are_bare entry
gives_past names names' above kids rest are_bare name kid entry way level next none named more_names is =
    let rows = passes names.items names'.items above.items kids rest name kid entry level next none named is in
    let two : length names'.items ≡ length names.items + 1 = ap length named ∙ length-append names.items (name ∷ []) in
    let room_names = way.room_names in
    record {
      way = record {
        least = omega arith;
        most = omega arith;
        clean = (subst (AllByRecursion (λ (row : List (List ℕ) × Entry). IsClean row.0)) rows way.clean).1;
        bare = λ known. (subst AreBare next (way.bare known)).1;
        room_names = omega arith;
        room_above = way.room_above;
      };
      rows = rows;
    }

-- ---- several entries with nothing below them are passed

-- what is behind some items, and what holds of all
all_behind : {A : Type 0} (P : A → Type 0) (n : ℕ) (xs : List A) → AllByRecursion P xs → AllByRecursion P (drop n xs)
all_behind P zero xs all = all
all_behind P (suc n) [] all = tt
all_behind P (suc n) (x ∷ xs) all = all_behind P n xs all.1

-- as many rows are passed as children, where each name is a folder's
rows_left-behind : (names : List (List ℕ)) (above : List (List (List ℕ × NodeValue))) (n : ℕ) (kids rest : List (List ℕ × NodeValue)) (next : List ℕ × NodeValue) → length names ≡ length above → AreBare kids → drop n kids ≡ next ∷ rest
    → drop n (rows_left names above kids) ≡ rows_left names above (drop n kids)
rows_left-behind names above zero kids rest next level bare left = refl
rows_left-behind names above (suc n) [] rest next level bare left = let e : suc (length rest) ≡ 0 = ap length (sym left) in absurd (omega arith)
rows_left-behind names above (suc n) ((name, kid) ∷ kids) rest next level bare left =
    ap (drop (suc n)) (rows_left-enter names above name kid kids [] level bare.0)
    ∙ ap (drop n) (rows_left-leave names above name kids level)
    ∙ rows_left-behind names above n kids rest next level bare.1 left

-- the walk behind them
pub record IsBehind {Z : Type 0} (names : Vec (Bor (List ℕ)) Z) (above : Vec (List (List ℕ × NodeValue)) Z) (kids : List (List ℕ × NodeValue)) (n : ℕ) (are_bare : Bool) : Type 0 where
  pub way : IsOnWay names above (drop n kids) are_bare
  pub rows : drop n (left_below_root names above kids) ≡ left_below_root names above (drop n kids)

pub goes_behind : {Z : Type 0} (names : Vec (Bor (List ℕ)) Z) (above : Vec (List (List ℕ × NodeValue)) Z) (kids rest : List (List ℕ × NodeValue)) (next : List ℕ × NodeValue) (n : ℕ) (are_bare : Bool) → IsOnWay names above kids are_bare → length names.items ≡ length above.items → IsTrue are_bare → drop n kids ≡ next ∷ rest
    → IsBehind names above kids n are_bare
goes_behind names above kids rest next n are_bare way level known left =
    let rows = rows_left-behind (lent_names names.items) above.items n kids rest next (length-lent_names names.items ∙ level) (way.bare known) left in
    record {
      way = record {
        least = way.least;
        most = way.most;
        clean = subst (AllByRecursion (λ (row : List (List ℕ) × Entry). IsClean row.0)) rows (all_behind (λ (row : List (List ℕ) × Entry). IsClean row.0) n (left_below_root names above kids) way.clean);
        bare = λ _. all_behind (λ (kid : List ℕ × NodeValue). IsBare kid.1) n kids (way.bare known);
        room_names = way.room_names;
        room_above = way.room_above;
      };
      rows = rows;
    }

-- what is behind the last of some items
steps_behind : {A : Type 0} (n : ℕ) (xs rest : List A) (x : A) → drop n xs ≡ x ∷ rest → (rest ≡ drop (suc n) xs) × (suc n ≤ length xs)
steps_behind zero [] rest x left = let e : suc (length rest) ≡ 0 = ap length (sym left) in absurd (omega arith)
steps_behind (suc n) [] rest x left = let e : suc (length rest) ≡ 0 = ap length (sym left) in absurd (omega arith)
steps_behind zero (y ∷ xs) rest x left = (sym (ap (drop 1) left), omega arith)
steps_behind (suc n) (y ∷ xs) rest x left = let more = steps_behind n xs rest x left in (more.0, omega (arith, more.1))

-- what is left of some rows, of which so many were passed, or none as none was left
pub passed_left : {A B : Type 0} (count most : ℕ) (old new : List (A × B)) (at : A) → (0 < count → ArePassed most old new at count) → (count ≡ 0 → (old ≡ []) × (new ≡ [])) → (new ≡ drop count old) × (count ≤ length old)
passed_left zero most old new at passed end = let none = end refl in (none.1 ∙ sym none.0, omega arith)
passed_left (suc n) most old new at passed end =
    let last = passed (omega arith) in
    let less : n ≡ suc n - 1 = omega arith in
    steps_behind n old new (at, last.last) (ap (λ k. drop k old) less ∙ last.left)

-- ---- an entry with nothing below it is left

-- its name goes, and the rows stay
pub drops : {Z : Type 0} (names names' : Vec (Bor (List ℕ)) Z) (above : Vec (List (List ℕ × NodeValue)) Z) (kids : List (List ℕ × NodeValue)) (are_bare : Bool) (name : Option (Bor (List ℕ))) → IsOnWay names above kids are_bare → vec_len above < vec_len names → names.items ≡ names'.items ++ option_to_list name
    → (0 < vec_len names → IsSome name) → vec_capacity names' ≡ vec_capacity names → IsAtFolder names names' above kids are_bare
drops names names' above kids are_bare None way more named some room_names = absurd (true≢false (sym (some (omega arith))))
drops names names' above kids are_bare (Some name) way more named some room_names =
    let two : length names.items ≡ length names'.items + 1 = ap length named ∙ length-append names'.items (name ∷ []) in
    let most = way.most in
    let names_len = names.ok.0 in
    let above_len = above.ok.0 in
    let same : length names'.items ≡ length above.items = omega arith in
    let rows : rows_left (lent_names names.items) above.items kids ≡ rows_left (lent_names names'.items) above.items kids
    = ap (λ ns. rows_left ns above.items kids) (ap lent_names named ∙ lent_names-append names'.items name) ∙ rows_left-past (lent_names names'.items) above.items name.now kids (length-lent_names names'.items ∙ same) in
    let many_names = way.room_names in
    record {
      way = record {
        least = omega arith;
        most = omega arith;
        clean = subst (AllByRecursion (λ (row : List (List ℕ) × Entry). IsClean row.0)) rows way.clean;
        bare = way.bare;
        room_names = omega arith;
        room_above = way.room_above;
      };
      level = same;
      same = sym rows;
      first = ap (λ ns. take (length names'.items) (lent_names ns)) named ∙ are_first-append names'.items (name ∷ []);
    }

-- where there is none, all stays
pub stays : {Z : Type 0} (names : Vec (Bor (List ℕ)) Z) (above : Vec (List (List ℕ × NodeValue)) Z) (kids : List (List ℕ × NodeValue)) (are_bare : Bool) → IsOnWay names above kids are_bare → vec_len names ≤ vec_len above → IsAtFolder names names above kids are_bare
stays names above kids are_bare way few =
    let least = way.least in
    let names_len = names.ok.0 in
    let above_len = above.ok.0 in
    record {
      way = way;
      level = omega arith;
      same = refl;
      first = ap (λ ns. take (length names.items) (lent_names ns)) (sym (append-nil names.items)) ∙ are_first-append names.items [];
    }

-- ---- a folder is left

-- it had a name
pub is_named : {Z : Type 0} (names : Vec (Bor (List ℕ)) Z) (above above' : Vec (List (List ℕ × NodeValue)) Z) (left : List (List ℕ × NodeValue)) → length names.items ≡ length above.items → above.items ≡ above'.items ++ left ∷ [] → 0 < vec_len names
is_named names above above' left level popped =
    let one : length above.items ≡ length above'.items + 1 = ap length popped ∙ length-append above'.items (left ∷ []) in
    let names_len = names.ok.0 in
    omega arith

-- the walk is on its way, and the rows stay
pub leaves : {Z : Type 0} (names names' : Vec (Bor (List ℕ)) Z) (above above' : Vec (List (List ℕ × NodeValue)) Z) (kids left : List (List ℕ × NodeValue)) (are_bare : Bool) (name : Option (Bor (List ℕ))) → IsOnWay names above kids are_bare → length names.items ≡ length above.items → kids ≡ [] → above.items ≡ above'.items ++ left ∷ []
    → names.items ≡ names'.items ++ option_to_list name → IsSome name → vec_capacity above' ≡ vec_capacity above → vec_capacity names' ≡ vec_capacity names
    → IsOnWay names' above' left false × ((length names'.items ≡ length above'.items) × (rows_left (lent_names names'.items) above'.items left ≡ rows_left (lent_names names.items) above.items kids))
leaves names names' above above' kids left are_bare None way level none popped named some room_above room_names = absurd (true≢false (sym some))
leaves names names' above above' kids left are_bare (Some name) way level none popped named some room_above room_names =
    let one : length above.items ≡ length above'.items + 1 = ap length popped ∙ length-append above'.items (left ∷ []) in
    let two : length names.items ≡ length names'.items + 1 = ap length named ∙ length-append names'.items (name ∷ []) in
    let same : length names'.items ≡ length above'.items = omega arith in
    let rows : rows_left (lent_names names.items) above.items kids ≡ rows_left (lent_names names'.items) above'.items left
    = (λ i. rows_left ((ap lent_names named ∙ lent_names-append names'.items name) i) (popped i) (none i)) ∙ rows_left-leave (lent_names names'.items) above'.items name.now left (length-lent_names names'.items ∙ same) in
    let many_names = way.room_names in
    let many_above = way.room_above in (
      record {
        least = omega arith;
        most = omega arith;
        clean = subst (AllByRecursion (λ (row : List (List ℕ) × Entry). IsClean row.0)) rows way.clean;
        bare = λ known. absurd (true≢false (sym known));
        room_names = omega arith;
        room_above = omega arith;
      },
      (same, sym rows),
    )

-- ---- a walk begins

-- so a walk from the root is on its way
pub begins : {Z : Type 0} (names : Vec (Bor (List ℕ)) Z) (above : Vec (List (List ℕ × NodeValue)) Z) (kids : List (List ℕ × NodeValue)) (are_bare : Bool) (root : NodeValue) → IsTree (map_of root) → entries (map_of root) ≡ ([], root.top) ∷ rows_of kids → (IsTrue are_bare → AreBare kids) → names.items ≡ [] → above.items ≡ []
    → vec_capacity names ≡ most_components → vec_capacity above ≡ most_components → IsOnWay names above kids are_bare
begins names above kids are_bare root tree own bare no_names none_above room_names room_above =
    let all : AllByRecursion (λ (row : List (List ℕ) × Entry). IsClean row.0) (([], root.top) ∷ rows_of kids) = subst (AllByRecursion (λ (row : List (List ℕ) × Entry). IsClean row.0)) own (clean-rows (map_of root) tree) in
    let one : length names.items ≡ 0 = ap length no_names in
    let two : length above.items ≡ 0 = ap length none_above in
    record {
      least = omega arith;
      most = omega arith;
      clean = subst (λ (ns : List (Bor (List ℕ))). AllByRecursion (λ (row : List (List ℕ) × Entry). IsClean row.0) (rows_left (lent_names ns) above.items kids)) (sym no_names) all.1;
      bare = bare;
      room_names = omega arith;
      room_above = omega arith;
    }

-- ---- nothing is below a node

no_entries : entries (empty {X = Entry} {R = path_cmp}) ≡ []
no_entries = entries-kids [] (keys-from_sorted [] refl)

-- as where its map is empty
pub bare-node : (node : NodeValue) → node.below ≡ empty → IsBare node
bare-node node none =
    ap (λ (below : TreeMap). entries (insert below [] node.top)) none
    ∙ entries-insert path_cmp_total (empty {X = Entry} {R = path_cmp}) [] node.top
    ∙ ap (λ (rows : List (List (List ℕ) × Entry)). put path_cmp [] node.top rows) no_entries

both_parts : (P : List (List ℕ) × Entry → Type 0) (front behind : List (List (List ℕ) × Entry)) → AllByRecursion P (front ++ behind) → AllByRecursion P front × AllByRecursion P behind
both_parts P [] behind all = (tt, all)
both_parts P (row ∷ front) behind all = let rest = both_parts P front behind all.1 in ((all.0, rest.0), rest.1)

-- rows after a name that are no longer than the name are none
none_after : (name : List ℕ) (below : List (List (List ℕ) × Entry)) → below_all path_cmp [] below ≡ true → AllByRecursion (λ row. length row.0 ≤ 1) (below_name name below) → below ≡ []
none_after name [] lower short = refl
none_after name (([], entry) ∷ below) lower short = absurd (true≢false (sym lower))
none_after name ((c ∷ cs, entry) ∷ below) lower short = let long : length (name ∷ c ∷ cs) ≤ 1 = short.0 in absurd (omega arith)

bare_by-rows : (kids : List (List ℕ × NodeValue)) → AllByRecursion (λ row. length row.0 ≤ 1) (rows_of kids) → AreBare kids
bare_by-rows [] short = tt
bare_by-rows ((name, kid) ∷ kids) short =
    let parts = both_parts (λ row. length row.0 ≤ 1) (below_name name (entries (map_of kid))) (rows_of kids) short in
    let own = own-first (map_of kid) kid.top (get-map_of_root kid) in
    let after : AllByRecursion (λ (row : List (List ℕ) × Entry). length row.0 ≤ 1) (below_name name (([], kid.top) ∷ own.below))
    = subst (λ rows. AllByRecursion (λ (row : List (List ℕ) × Entry). length row.0 ≤ 1) (below_name name rows)) own.whole parts.0 in
    (own.whole ∙ ap (λ below. ([], kid.top) ∷ below) (none_after name own.below own.lower after.1), bare_by-rows kids parts.1)

-- and below no child of a node under which no path has more than one name
pub bare_kids : (node : NodeValue) (depth : ℕ) → IsDepth depth node.below → depth ≤ 1 → (kids : List (List ℕ × NodeValue)) → entries (map_of node) ≡ ([], node.top) ∷ rows_of kids → AreBare kids
bare_kids node depth deep one kids own =
    bare_by-rows kids (subst (AllByRecursion (λ (row : List (List ℕ) × Entry). length row.0 ≤ 1)) own (found-all (λ path. length path ≤ 1) (entries (map_of node)) (λ path found. short path (ap is_some (get-entries (map_of node) path) ∙ found)))).1
  where
    short : (path : List (List ℕ)) → is_some (get (map_of node) path) ≡ true → length path ≤ 1
    short [] found = omega arith
    short (c ∷ cs) found =
        let room : depth ≤ 64 = omega arith in
        let few = deep.few room (c ∷ cs) (ap is_some (sym (get-map_of_cons node c cs)) ∙ found) in
        omega arith

-- ---- the names that stay on the way

-- after a folder is left, the names are still the first ones
pub stay_first : (old names names' : List (Bor (List ℕ))) (name : List (Bor (List ℕ))) → take (length names) (lent_names old) ≡ lent_names names → names ≡ names' ++ name → take (length names') (lent_names old) ≡ lent_names names'
stay_first old names names' name first left =
    let n = length names' in
    let long : length names ≡ n + length name = ap length left ∙ length-append names' name in
    sym (take-take n (length names) (lent_names old) (omega arith)) ∙ ap (take n) (first ∙ ap lent_names left) ∙ are_first-append names' name

-- after a name is added, all but the last are
pub all_but_last : (old names names' : List (Bor (List ℕ))) (name : Bor (List ℕ)) → take (length names) (lent_names old) ≡ lent_names names → names' ≡ names ++ name ∷ [] → take (length names' - 1) (lent_names names') ≡ take (length names' - 1) (lent_names old)
all_but_last old names names' name first named =
    let one : length names' ≡ length names + 1 = ap length named ∙ length-append names (name ∷ []) in
    let n : length names' - 1 ≡ length names = omega arith in
    (λ i. take (n i) (lent_names (named i))) ∙ are_first-append names (name ∷ []) ∙ sym first ∙ ap (λ k. take k (lent_names old)) (sym n)

-- no name is left where no folder is
pub none_left : {Z : Type 0} (old : List (Bor (List ℕ))) (names : Vec (Bor (List ℕ)) Z) (above : Vec (List (List ℕ × NodeValue)) Z) → length names.items ≡ length above.items → above.items ≡ [] → take (length names.items - 1) (lent_names names.items) ≡ take (length names.items - 1) (lent_names old)
none_left old names above level none =
    let long : length above.items ≡ 0 = ap length none in
    let n : length names.items - 1 ≡ 0 = omega arith in
    ap (λ k. take k (lent_names names.items)) n ∙ ap (λ k. take k (lent_names old)) (sym n)
