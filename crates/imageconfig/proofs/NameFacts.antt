-- The names of rows, as rows are put one after another.
use Rattle.std.proofs.Common.{◌≡◌, ℕ, Bool, true, false, ◌&&◌, ◌||◌, cond, List, [], ◌∷◌, ◌++◌, map, Option, Some, None, length, refl, ap, sym, ◌∙◌, subst, take, ◌+◌, suc, arith, OnOk, OnErr, Result, Ok, Err}
use Rattle.std.specs.Prelude.{not, option_map, bytes_eq, ◌==◌}
use Rattle.std.specs.List.{list_any, list_all, before_first, after_first, position_or_len}
use Rattle.std.specs.Cmp.Lexicographic.{nat_list_eq_equiv}
use Rattle.std.proofs.lemmas.Bool.{and_parts, or_parts}
use Rattle.options.specs.Lists.{all_some}
use Rattle.plain.specs.Variable.{names_of as variable_names}
use Rattle.plain.specs.VariableName.{is_variable_name}
use Rattle.plain.specs.declared.variable.Variable.{Variable}
use Rattle.scopes.specs.Scope.{names_differ}
use Rattle.imageconfig.specs.Environment.{IsEnvironment, row_of, variables_of}
use Rattle.imageconfig.specs.Reading.{cut_row, if_they_differ}
use Rattle.imageconfig.specs.Rows.{Row, names_of, put_row, put_rows, add_name}
use Rattle.named.specs.Rows.{has_row}
use Rattle.imageconfig.specs.PrivateRows.{add_rows}
use Rattle.imageconfig.proofs.RowFacts.{names-put}

both : (a b : Bool) → a ≡ true → b ≡ true → (a && b) ≡ true
both true b h i = i
both false b h i = cc

off : (b : Bool) → b ≡ false → not b ≡ true
off b h = rw h refl

is_off : (b : Bool) → not b ≡ true → b ≡ false
is_off true h = cc
is_off false h = refl

neither : (a b : Bool) → a ≡ false → b ≡ false → (a || b) ≡ false
neither a b h i = rw (h, i) refl

any-snoc : (n : List ℕ) (ns : List (List ℕ)) (m : List ℕ) → list_any (bytes_eq n) ns ≡ false → bytes_eq n m ≡ false → list_any (bytes_eq n) (ns ++ m ∷ []) ≡ false
any-snoc n [] m h i = rw i refl
any-snoc n (l ∷ ns) m h i =
    let parts = or_parts (bytes_eq n l) (list_any (bytes_eq n) ns) h in
    neither _ _ parts.0 (any-snoc n ns m parts.1 i)

-- one more name that isn't there leaves names different
differ-snoc : (ns : List (List ℕ)) (n : List ℕ) → names_differ ns ≡ true → list_any (bytes_eq n) ns ≡ false → names_differ (ns ++ n ∷ []) ≡ true
differ-snoc [] n h i = refl
differ-snoc (m ∷ ns) n h i =
    let parts = and_parts (not (list_any (bytes_eq m) ns)) (names_differ ns) h in
    let apart = or_parts (bytes_eq n m) (list_any (bytes_eq n) ns) i in
    both _ _ (off _ (any-snoc m ns n (is_off _ parts.0) (nat_list_eq_equiv.symm m n ∙ apart.0))) (differ-snoc ns n parts.1 apart.1)

differ-add : (ns : List (List ℕ)) (n : List ℕ) → names_differ ns ≡ true → names_differ (add_name ns n) ≡ true
differ-add ns n h = by (list_any (bytes_eq n) ns) refl
  where
    by : (b : Bool) → list_any (bytes_eq n) ns ≡ b → names_differ (cond b ns (ns ++ n ∷ [])) ≡ true
    by true e = h
    by false e = differ-snoc ns n h e

all-snoc : (test : List ℕ → Bool) (ns : List (List ℕ)) (n : List ℕ) → list_all test ns ≡ true → test n ≡ true → list_all test (ns ++ n ∷ []) ≡ true
all-snoc test [] n h i = both _ _ i refl
all-snoc test (m ∷ ns) n h i =
    let parts = and_parts (test m) (list_all test ns) h in
    both _ _ parts.0 (all-snoc test ns n parts.1 i)

all-add : (test : List ℕ → Bool) (ns : List (List ℕ)) (n : List ℕ) → list_all test ns ≡ true → test n ≡ true → list_all test (add_name ns n) ≡ true
all-add test ns n h i = by (list_any (bytes_eq n) ns)
  where
    by : (b : Bool) → list_all test (cond b ns (ns ++ n ∷ [])) ≡ true
    by true = h
    by false = all-snoc test ns n h i

-- an environment is one after a row was put
environment-put : (rows : List Row) (name value : List ℕ) → IsEnvironment rows → is_variable_name name ≡ true → IsEnvironment (put_row rows name value)
environment-put rows name value is fits = record {
  fit = ap (list_all is_variable_name) (names-put rows name value) ∙ all-add is_variable_name (names_of rows) name is.fit fits;
  differ = ap names_differ (names-put rows name value) ∙ differ-add (names_of rows) name is.differ;
}

-- and after rows were put
pub environment-rows : (rows more : List Row) → IsEnvironment rows → list_all is_variable_name (names_of more) ≡ true → IsEnvironment (put_rows rows more)
environment-rows rows [] is fits = is
environment-rows rows (row ∷ more) is fits =
    let parts = and_parts (is_variable_name row.0) (list_all is_variable_name (names_of more)) fits in
    environment-rows (put_row rows row.0 row.1) more (environment-put rows row.0 row.1 is parts.0) parts.1

pub environment-none : IsEnvironment []
environment-none = record { fit = refl; differ = refl }

any-middle : (m : List ℕ) (ns : List (List ℕ)) (n : List ℕ) (more : List (List ℕ)) → bytes_eq m n ≡ true → list_any (bytes_eq m) (ns ++ n ∷ more) ≡ true
any-middle m [] n more h = rw h refl
any-middle m (l ∷ ns) n more h = by (bytes_eq m l) (any-middle m ns n more h)
  where
    by : (b : Bool) → list_any (bytes_eq m) (ns ++ n ∷ more) ≡ true → (b || list_any (bytes_eq m) (ns ++ n ∷ more)) ≡ true
    by true h = refl
    by false h = h

-- names of which a later one is among those before it don't differ
alike : (ns : List (List ℕ)) (n : List ℕ) (more : List (List ℕ)) → list_any (bytes_eq n) ns ≡ true → names_differ (ns ++ n ∷ more) ≡ false
alike [] n more h = cc
alike (m ∷ ns) n more h = by (bytes_eq n m) refl h (λ g. alike ns n more g)
  where
    last : (b c : Bool) → c ≡ false → (b && c) ≡ false
    last true c e = e
    last false c e = refl

    by : (b : Bool) → bytes_eq n m ≡ b → (b || list_any (bytes_eq n) ns) ≡ true → (list_any (bytes_eq n) ns ≡ true → names_differ (ns ++ n ∷ more) ≡ false)
        → (not (list_any (bytes_eq m) (ns ++ n ∷ more)) && names_differ (ns ++ n ∷ more)) ≡ false
    by true e g r = rw (any-middle m ns n more (nat_list_eq_equiv.symm m n ∙ e)) refl
    by false e g r = last _ _ (r g)

has-names : (name : List ℕ) (rows : List Row) → has_row name rows ≡ list_any (bytes_eq name) (names_of rows)
has-names name [] = refl
has-names name (row ∷ rows) = ap (λ b. bytes_eq name row.0 || b) (has-names name rows)

names-append : (rows more : List Row) → names_of (rows ++ more) ≡ names_of rows ++ names_of more
names-append [] more = refl
names-append (row ∷ rows) more = ap (λ (ns : List (List ℕ)). row.0 ∷ ns) (names-append rows more)

append-assoc : (xs ys zs : List Row) → (xs ++ ys) ++ zs ≡ xs ++ (ys ++ zs)
append-assoc [] ys zs = refl
append-assoc (x ∷ xs) ys zs = ap (λ (rs : List Row). x ∷ rs) (append-assoc xs ys zs)

append-none : (xs : List Row) → xs ++ [] ≡ xs
append-none [] = refl
append-none (x ∷ xs) = ap (λ (rs : List Row). x ∷ rs) (append-none xs)

-- rows that are taken one after another are all of them, where no two names are the same
taken : (rows more : List Row) → names_differ (names_of rows) ≡ true → add_rows rows more ≡ if_they_differ (rows ++ more)
taken rows [] h = rw (append-none rows, h) refl
taken rows (row ∷ more) h = by (has_row row.0 rows) refl (λ i. taken (rows ++ row ∷ []) more i)
  where
    by : (b : Bool) → has_row row.0 rows ≡ b → (names_differ (names_of (rows ++ row ∷ [])) ≡ true → add_rows (rows ++ row ∷ []) more ≡ if_they_differ ((rows ++ row ∷ []) ++ more))
        → cond b None (add_rows (rows ++ row ∷ []) more) ≡ if_they_differ (rows ++ row ∷ more)
    by true e g =
        let same : names_differ (names_of (rows ++ row ∷ more)) ≡ false =
        ap names_differ (names-append rows (row ∷ more)) ∙ alike (names_of rows) row.0 (names_of more) (sym (has-names row.0 rows) ∙ e) in
        rw same refl
    by false e g =
        let differ : names_differ (names_of (rows ++ row ∷ [])) ≡ true =
        ap names_differ (names-append rows (row ∷ [])) ∙ differ-snoc (names_of rows) row.0 h (sym (has-names row.0 rows) ∙ e) in
        g differ ∙ ap if_they_differ (append-assoc rows (row ∷ []) more)

pub taken-all : (rows : List Row) → add_rows [] rows ≡ if_they_differ rows
taken-all rows = taken [] rows refl

-- rows that are taken are an environment, where their names are such
pub taken-environment : (rows all : List Row) → list_all is_variable_name (names_of rows) ≡ true → if_they_differ rows ≡ Some all → IsEnvironment all
taken-environment rows all h i = by (names_differ (names_of rows)) refl i
  where
    by : (b : Bool) → names_differ (names_of rows) ≡ b → cond b (Some rows) None ≡ Some all → IsEnvironment all
    by true e j =
        let same : rows ≡ all = cc in
        subst IsEnvironment same (record { fit = h; differ = e })
    by false e j = cc

-- no byte of what stands before the first `=` is one
before-equals : (text : List ℕ) → list_any (λ c. c == 61) (before_first (λ c. c == 61) text) ≡ false
before-equals [] = refl
before-equals (c ∷ text) = by (c == 61) refl (before-equals text)
  where
    by : (b : Bool) → (c == 61) ≡ b → list_any (λ c. c == 61) (take (position_or_len (λ c. c == 61) text) text) ≡ false
        → list_any (λ c. c == 61) (take (cond (not b) (1 + position_or_len (λ c. c == 61) text) 0) (c ∷ text)) ≡ false
    by true e h = refl
    by false e h =
        let up : 1 + position_or_len (λ c. c == 61) text ≡ suc (position_or_len (λ c. c == 61) text) = omega arith in
        ap (λ n. list_any (λ c. c == 61) (take n (c ∷ text))) up ∙ neither _ _ e h

-- the name of a row that is cut is one of an environment
pub cut_fits : (text : List ℕ) (row : Row) → cut_row text ≡ Some row → is_variable_name row.0 ≡ true
cut_fits text row h = by (position_or_len (λ c. c == 61) text == length text) (length (before_first (λ c. c == 61) text) == 0) refl h
  where
    by : (a b : Bool) → (length (before_first (λ c. c == 61) text) == 0) ≡ b
        → cond a None (cond b None (Some (before_first (λ c. c == 61) text, after_first (λ c. c == 61) text))) ≡ Some row → is_variable_name row.0 ≡ true
    by true b e j = cc
    by false true e j = cc
    by false false e j =
        let same : (before_first (λ c. c == 61) text, after_first (λ c. c == 61) text) ≡ row = cc in
        ap (λ (r : Row). is_variable_name r.0) (sym same) ∙ both _ _ (off _ e) (off _ (before-equals text))

-- the names of all rows that are cut are such
pub cut_all : (texts : List (List ℕ)) (rows : List Row) → all_some (map cut_row texts) ≡ Some rows → list_all is_variable_name (names_of rows) ≡ true
cut_all [] rows h = let same : [] ≡ rows = cc in ap (λ (rs : List Row). list_all is_variable_name (names_of rs)) (sym same)
cut_all (text ∷ texts) rows h = by (cut_row text) refl (all_some (map cut_row texts)) h (λ more i. cut_all texts more i) refl
  where
    by : (o : Option Row) → cut_row text ≡ o → (rest : Option (List Row)) → all_some (o ∷ map cut_row texts) ≡ Some rows
        → ((more : List Row) → all_some (map cut_row texts) ≡ Some more → list_all is_variable_name (names_of more) ≡ true) → all_some (map cut_row texts) ≡ rest → list_all is_variable_name (names_of rows) ≡ true
    by None e rest j g r = cc
    by (Some row) e None j g r = cc
    by (Some row) e (Some more) j g r =
        let whole : option_map (λ xs. row ∷ xs) (Some more) ≡ Some rows = ap (option_map (λ xs. row ∷ xs)) (sym r) ∙ j in
        let same : row ∷ more ≡ rows = cc in
        ap (λ (rs : List Row). list_all is_variable_name (names_of rs)) (sym same) ∙ both _ _ (cut_fits text row e) (g more r)

-- an environment that rows were put into, or were not
pub environment-kept : {E : Type 0} (result : Result (Unit {0}) E) (old new rows : List Row) → OnOk result (new ≡ put_rows old rows) → OnErr result (new ≡ old) → IsEnvironment old → list_all is_variable_name (names_of rows) ≡ true → IsEnvironment new
environment-kept (Ok u) old new rows ok err is fits = subst IsEnvironment (sym ok) (environment-rows old rows is fits)
environment-kept (Err e) old new rows ok err is fits = subst IsEnvironment (sym err) is

-- the names of variables as rows
pub row_names : (variables : List Variable) → names_of (map row_of variables) ≡ variable_names variables
row_names [] = refl
row_names (variable ∷ variables) = ap (λ (ns : List (List ℕ)). variable.name ∷ ns) (row_names variables)

-- the names of rows as variables
pub variables_names : (rows : List Row) → map (λ v. v.name) (variables_of rows) ≡ names_of rows
variables_names [] = refl
variables_names (row ∷ rows) = ap (λ (ns : List (List ℕ)). row.0 ∷ ns) (variables_names rows)
