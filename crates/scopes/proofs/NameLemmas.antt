-- The names of what is kept and of RUN's environment: those of the declarations, and in the environment each once.
use Rattle.std.proofs.Common.{◌≡◌, ℕ, Bool, true, false, List, [], ◌∷◌, ◌++◌, map, Option, Some, None, Result, Ok, Err, OnOk, OnErr, refl, ap, ap₂, sym, subst, ◌∙◌, is_some}
use Rattle.std.specs.Prelude.{◌&&◌, ◌||◌, not}
use Rattle.std.specs.List.{filter_map, list_all, list_any}
use Rattle.std.specs.Str.{bytes_eq}
use Rattle.std.specs.Cmp.Lexicographic.{nat_list_eq_equiv}
use Rattle.std.proofs.lemmas.Bool.{true≢false}
use Rattle.std.proofs.lemmas.List.{map-append}
use Rattle.instructions.specs.declared.instruction.Argument.{Argument}
use Rattle.instructions.specs.declared.instruction.Assignment.{Assignment}
use Rattle.plain.specs.declared.memory.Memory.{Memory}
use Rattle.scopes.specs.Evaluate.{Values, env_line, arg_line}
use Rattle.plain.specs.Variable.{names_of}
use Rattle.plain.specs.VariableName.{is_variable_name}
use Rattle.named.specs.Rows.{put_rows, give_rows}
use Rattle.scopes.specs.PrivateMaps.{env_row_of, arg_row_of, declared}
use Rattle.scopes.specs.Scope.{or_else, where_same, run_env, kept, name_of, names_in, names_differ, HaveNames}
use Rattle.scopes.proofs.MapLemmas.{declared-set, declared-given}
use Rattle.scopes.proofs.Said.{Said, env_said, arg_said, last, apart, settled}
use Rattle.scopes.proofs.SaidLemmas.{either, apart-twice, apart-turned, last-settled}
use Rattle.scopes.proofs.ScopeLemmas.{env_of, arg_of, kept-is, row_of, other_row_of, run_env-is}
use Rattle.scopes.specs.declared.declaration.Declaration.{Declaration}
use Rattle.scopes.specs.declared.declaration.Declaration.TheVariants.{Env, Arg}
use Rattle.plain.specs.declared.variable.Variable.{Variable}

-- tests of two lists

and-split : (a b : Bool) → (a && b) ≡ true → (a ≡ true) × (b ≡ true)
and-split true b h = (refl, h)
and-split false b h = absurd (true≢false (sym h))

pub all-append : {X : Type 0} (p : X → Bool) (xs ys : List X) → list_all p (xs ++ ys) ≡ (list_all p xs && list_all p ys)
all-append p [] ys = refl
all-append p (x ∷ xs) ys = by (p x) (all-append p xs ys)
  where
    by : (b : Bool) → list_all p (xs ++ ys) ≡ (list_all p xs && list_all p ys) → (b && list_all p (xs ++ ys)) ≡ ((b && list_all p xs) && list_all p ys)
    by true h = h
    by false h = refl

any-append : {X : Type 0} (p : X → Bool) (xs ys : List X) → list_any p (xs ++ ys) ≡ (list_any p xs || list_any p ys)
any-append p [] ys = refl
any-append p (x ∷ xs) ys = by (p x) (any-append p xs ys)
  where
    by : (b : Bool) → list_any p (xs ++ ys) ≡ (list_any p xs || list_any p ys) → (b || list_any p (xs ++ ys)) ≡ ((b || list_any p xs) || list_any p ys)
    by true h = refl
    by false h = h

-- what all names of pairs are

abbrev fits : (List ℕ → Bool) → Said → Bool
fits f ps = list_all (λ p. f p.0) ps

fits-apart : (f : List ℕ → Bool) (n : List ℕ) (ps : Said) → fits f ps ≡ true → fits f (apart n ps) ≡ true
fits-apart f n [] h = refl
fits-apart f n (p ∷ ps) h =
    let s = and-split (f p.0) (fits f ps) h in
    either n p.0 (λ same e. rw e (fits-apart f n ps s.1)) (λ e. rw (e, s.0) (fits-apart f n ps s.1))

fits-settled : (f : List ℕ → Bool) (ps : Said) → fits f ps ≡ true → fits f (settled ps) ≡ true
fits-settled f [] h = refl
fits-settled f (p ∷ ps) h =
    let s = and-split (f p.0) (fits f ps) h in
    rw s.0 (fits-apart f p.0 (settled ps) (fits-settled f ps s.1))

fits-env_said : (f : List ℕ → Bool) (ds : List Declaration) → list_all f (names_in ds) ≡ true → fits f (env_said ds) ≡ true
fits-env_said f [] h = refl
fits-env_said f (Env n text ∷ ds) h = let s = and-split (f n) (list_all f (names_in ds)) h in rw s.0 (fits-env_said f ds s.1)
fits-env_said f (Arg n value ∷ ds) h = fits-env_said f ds (and-split (f n) (list_all f (names_in ds)) h).1

fits-arg_said : (f : List ℕ → Bool) (ds : List Declaration) → list_all f (names_in ds) ≡ true → fits f (arg_said ds) ≡ true
fits-arg_said f [] h = refl
fits-arg_said f (Env n text ∷ ds) h = fits-arg_said f ds (and-split (f n) (list_all f (names_in ds)) h).1
fits-arg_said f (Arg n value ∷ ds) h = let s = and-split (f n) (list_all f (names_in ds)) h in rw s.0 (fits-arg_said f ds s.1)

-- the names of what is kept are those of the declarations

fits-envs : (f : List ℕ → Bool) (ps : Said) → fits f ps ≡ true → list_all f (names_in (filter_map env_of ps)) ≡ true
fits-envs f [] h = refl
fits-envs f (p ∷ ps) h = let s = and-split (f p.0) (fits f ps) h in by p.0 p.1 s.0 (fits-envs f ps s.1)
  where
    by : (n : List ℕ) (o : Option (List ℕ)) → f n ≡ true → list_all f (names_in (filter_map env_of ps)) ≡ true → list_all f (names_in (filter_map env_of ((n, o) ∷ ps))) ≡ true
    by n (Some text) k i = rw k i
    by n None k i = i

fits-args : (f : List ℕ → Bool) (ps : Said) → fits f ps ≡ true → list_all f (names_in (map arg_of ps)) ≡ true
fits-args f [] h = refl
fits-args f (p ∷ ps) h = let s = and-split (f p.0) (fits f ps) h in rw s.0 (fits-args f ps s.1)

pub names_in-append : (f : List ℕ → Bool) (ds es : List Declaration) → list_all f (names_in (ds ++ es)) ≡ (list_all f (names_in ds) && list_all f (names_in es))
names_in-append f ds es = ap (list_all f) (map-append name_of ds es) ∙ all-append f (names_in ds) (names_in es)

pub kept-fits : (f : List ℕ → Bool) (ds : List Declaration) → list_all f (names_in ds) ≡ true → list_all f (names_in (kept ds)) ≡ true
kept-fits f ds h =
    ap (λ (es : List Declaration). list_all f (names_in es)) (kept-is ds)
    ∙ names_in-append f (filter_map env_of (settled (env_said ds))) (map arg_of (settled (arg_said ds)))
    ∙ ap₂ (λ (a b : Bool). a && b)
    (fits-envs f (settled (env_said ds)) (fits-settled f (env_said ds) (fits-env_said f ds h)))
    (fits-args f (settled (arg_said ds)) (fits-settled f (arg_said ds) (fits-arg_said f ds h)))

-- and so are those of the environment

fits-rows : (f : List ℕ → Bool) (ps : Said) → fits f ps ≡ true → list_all f (names_of (filter_map row_of ps)) ≡ true
fits-rows f [] h = refl
fits-rows f (p ∷ ps) h = let s = and-split (f p.0) (fits f ps) h in by p.0 p.1 s.0 (fits-rows f ps s.1)
  where
    by : (n : List ℕ) (o : Option (List ℕ)) → f n ≡ true → list_all f (names_of (filter_map row_of ps)) ≡ true → list_all f (names_of (filter_map row_of ((n, o) ∷ ps))) ≡ true
    by n (Some text) k i = rw k i
    by n None k i = i

fits-other_rows : (f : List ℕ → Bool) (es ps : Said) → fits f ps ≡ true → list_all f (names_of (filter_map (other_row_of es) ps)) ≡ true
fits-other_rows f es [] h = refl
fits-other_rows f es (p ∷ ps) h = let s = and-split (f p.0) (fits f ps) h in by p.0 p.1 (is_some (last p.0 es)) refl s.0 (fits-other_rows f es ps s.1)
  where
    by : (n : List ℕ) (o : Option (List ℕ)) (b : Bool) → is_some (last n es) ≡ b → f n ≡ true → list_all f (names_of (filter_map (other_row_of es) ps)) ≡ true
        → list_all f (names_of (filter_map (other_row_of es) ((n, o) ∷ ps))) ≡ true
    by n o true e k i = rw e i
    by n (Some text) false e k i = rw (e, k) i
    by n None false e k i = rw e i

pub run_env-fits : (f : List ℕ → Bool) (ds : List Declaration) → list_all f (names_in ds) ≡ true → list_all f (names_of (run_env ds)) ≡ true
run_env-fits f ds h =
    ap (λ (rows : List Variable). list_all f (names_of rows)) (run_env-is ds)
    ∙ ap (list_all f) (map-append (λ (v : Variable). v.name) (filter_map row_of (settled (env_said ds))) (filter_map (other_row_of (env_said ds)) (settled (arg_said ds))))
    ∙ all-append f (names_of (filter_map row_of (settled (env_said ds)))) (names_of (filter_map (other_row_of (env_said ds)) (settled (arg_said ds))))
    ∙ ap₂ (λ (a b : Bool). a && b)
    (fits-rows f (settled (env_said ds)) (fits-settled f (env_said ds) (fits-env_said f ds h)))
    (fits-other_rows f (env_said ds) (settled (arg_said ds)) (fits-settled f (arg_said ds) (fits-arg_said f ds h)))

-- each name is there once

-- no pair has the name of one before it
abbrev Distinct : Said → Type 0
Distinct [] = Unit {0}
Distinct (p ∷ ps) = (apart p.0 ps ≡ ps) × Distinct ps

apart-distinct : (n : List ℕ) (ps : Said) → Distinct ps → Distinct (apart n ps)
apart-distinct n [] h = tt
apart-distinct n (p ∷ ps) h =
    either n p.0
    (λ s e. rw e (apart-distinct n ps h.1))
    (λ e. rw e (apart-turned p.0 n ps ∙ ap (apart n) h.0, apart-distinct n ps h.1))

settled-distinct : (ps : Said) → Distinct (settled ps)
settled-distinct [] = tt
settled-distinct (p ∷ ps) = (apart-twice p.0 (settled ps), apart-distinct p.0 (settled ps) (settled-distinct ps))

-- a row that other pairs make has another name

abbrev has : List ℕ → List Variable → Bool
has n rows = list_any (bytes_eq n) (names_of rows)

apart-no_row : (n : List ℕ) (ps : Said) → has n (filter_map row_of (apart n ps)) ≡ false
apart-no_row n [] = refl
apart-no_row n (p ∷ ps) = either n p.0 (λ s e. rw e (apart-no_row n ps)) (λ e. rw e (by p.0 p.1 e (apart-no_row n ps)))
  where
    by : (m : List ℕ) (o : Option (List ℕ)) → bytes_eq n m ≡ false → has n (filter_map row_of (apart n ps)) ≡ false → has n (filter_map row_of ((m, o) ∷ apart n ps)) ≡ false
    by m (Some text) e h = rw e h
    by m None e h = h

apart-no_other_row : (es : Said) (n : List ℕ) (ps : Said) → has n (filter_map (other_row_of es) (apart n ps)) ≡ false
apart-no_other_row es n [] = refl
apart-no_other_row es n (p ∷ ps) = either n p.0 (λ s e. rw e (apart-no_other_row es n ps)) (λ e. rw e (by p.0 p.1 (is_some (last p.0 es)) refl e (apart-no_other_row es n ps)))
  where
    by : (m : List ℕ) (o : Option (List ℕ)) (b : Bool) → is_some (last m es) ≡ b → bytes_eq n m ≡ false → has n (filter_map (other_row_of es) (apart n ps)) ≡ false
        → has n (filter_map (other_row_of es) ((m, o) ∷ apart n ps)) ≡ false
    by m o true t e h = rw t h
    by m (Some text) false t e h = rw (t, e) h
    by m None false t e h = rw t h

rows-differ : (ps : Said) → Distinct ps → names_differ (names_of (filter_map row_of ps)) ≡ true
rows-differ [] h = refl
rows-differ (p ∷ ps) h = by p.0 p.1 (sym (ap (λ (qs : Said). has p.0 (filter_map row_of qs)) h.0) ∙ apart-no_row p.0 ps) (rows-differ ps h.1)
  where
    by : (n : List ℕ) (o : Option (List ℕ)) → has n (filter_map row_of ps) ≡ false → names_differ (names_of (filter_map row_of ps)) ≡ true → names_differ (names_of (filter_map row_of ((n, o) ∷ ps))) ≡ true
    by n (Some text) e i = rw e i
    by n None e i = i

other_rows-differ : (es ps : Said) → Distinct ps → names_differ (names_of (filter_map (other_row_of es) ps)) ≡ true
other_rows-differ es [] h = refl
other_rows-differ es (p ∷ ps) h =
    by p.0 p.1 (is_some (last p.0 es)) refl (sym (ap (λ (qs : Said). has p.0 (filter_map (other_row_of es) qs)) h.0) ∙ apart-no_other_row es p.0 ps) (other_rows-differ es ps h.1)
  where
    by : (n : List ℕ) (o : Option (List ℕ)) (b : Bool) → is_some (last n es) ≡ b → has n (filter_map (other_row_of es) ps) ≡ false
        → names_differ (names_of (filter_map (other_row_of es) ps)) ≡ true → names_differ (names_of (filter_map (other_row_of es) ((n, o) ∷ ps))) ≡ true
    by n o true t e i = rw t i
    by n (Some text) false t e i = rw (t, e) i
    by n None false t e i = rw t i

-- a name of a row of the ENVs has a value by them, and so has no row of the ARGs

none-some : (o : Option (List ℕ)) → o ≡ None → is_some o ≡ true → ⊥
none-some o e h = true≢false (sym h ∙ ap is_some e)

row-last-by : (n m : List ℕ) (o : Option (List ℕ)) (ps : Said) (found : Option (List ℕ)) → last n ps ≡ found → (has n (filter_map row_of ps) ≡ true → is_some (last n ps) ≡ true)
    → has n (filter_map row_of ((m, o) ∷ ps)) ≡ true → is_some (or_else found (where_same n m o)) ≡ true
row-last-by n m o ps (Some text) e rest h = refl
row-last-by n m None ps None e rest h = absurd (none-some (last n ps) e (rest h))
row-last-by n m (Some text) ps None e rest h = either n m (λ s t. rw t refl) (λ t. absurd (none-some (last n ps) e (rest (rw t at h))))

row-last : (n : List ℕ) (ps : Said) → has n (filter_map row_of ps) ≡ true → is_some (last n ps) ≡ true
row-last n [] h = absurd (true≢false (sym h))
row-last n (p ∷ ps) h = row-last-by n p.0 p.1 ps (last n ps) refl (row-last n ps) h

last-no_other_row : (n : List ℕ) (es ps : Said) → is_some (last n es) ≡ true → has n (filter_map (other_row_of es) ps) ≡ false
last-no_other_row n es [] h = refl
last-no_other_row n es (p ∷ ps) h = by p.0 p.1 (is_some (last p.0 es)) refl (last-no_other_row n es ps h)
  where
    by : (m : List ℕ) (o : Option (List ℕ)) (b : Bool) → is_some (last m es) ≡ b → has n (filter_map (other_row_of es) ps) ≡ false → has n (filter_map (other_row_of es) ((m, o) ∷ ps)) ≡ false
    by m o true t i = rw t i
    by m None false t i = rw t i
    by m (Some text) false t i = either n m (λ s e. absurd (true≢false (sym h ∙ ap (λ x. is_some (last x es)) s ∙ t))) (λ e. rw (t, e) i)

or-true : (b : Bool) → (b || true) ≡ true
or-true true = refl
or-true false = refl

not-is : (b : Bool) → not b ≡ true → b ≡ false
not-is true h = absurd (true≢false (sym h))
not-is false h = refl

names_differ-append : (xs ys : List (List ℕ)) → names_differ xs ≡ true → names_differ ys ≡ true → ((n : List ℕ) → list_any (bytes_eq n) xs ≡ true → list_any (bytes_eq n) ys ≡ false)
    → names_differ (xs ++ ys) ≡ true
names_differ-append [] ys h i apart = i
names_differ-append (x ∷ xs) ys h i apart =
    let s = and-split (not (list_any (bytes_eq x) xs)) (names_differ xs) h in
    let others : list_any (bytes_eq x) (xs ++ ys) ≡ false =
    any-append (bytes_eq x) xs ys ∙ ap₂ (λ (a b : Bool). a || b) (not-is (list_any (bytes_eq x) xs) s.0) (apart x (ap (λ b. b || list_any (bytes_eq x) xs) (nat_list_eq_equiv.refl x))) in
    rw others (names_differ-append xs ys s.1 i (λ n l. apart n (ap (λ b. bytes_eq n x || b) l ∙ or-true (bytes_eq n x))))

pub run_env-differs : (ds : List Declaration) → names_differ (names_of (run_env ds)) ≡ true
run_env-differs ds =
    let rows = filter_map row_of (settled (env_said ds)) in
    let others = filter_map (other_row_of (env_said ds)) (settled (arg_said ds)) in
    ap (λ (env : List Variable). names_differ (names_of env)) (run_env-is ds)
    ∙ ap names_differ (map-append (λ (v : Variable). v.name) rows others)
    ∙ names_differ-append (names_of rows) (names_of others)
    (rows-differ (settled (env_said ds)) (settled-distinct (env_said ds)))
    (other_rows-differ (env_said ds) (settled (arg_said ds)) (settled-distinct (arg_said ds)))
    (λ n h. last-no_other_row n (env_said ds) (settled (arg_said ds)) (ap is_some (sym (last-settled n (env_said ds))) ∙ row-last n (settled (env_said ds)) h))

-- what a line says has the names that stand in it

pub env_line-names : (before : Values) (assignments : List Assignment) → names_in (env_line before assignments) ≡ map (λ a. a.name) assignments
env_line-names before [] = refl
env_line-names before (v ∷ vs) = ap (λ (ns : List (List ℕ)). v.name ∷ ns) (env_line-names before vs)

pub arg_line-names : (before args outer : Values) (arguments : List Argument) → names_in (arg_line before args outer arguments) ≡ map (λ a. a.name) arguments
arg_line-names before args outer [] = refl
arg_line-names before args outer (a ∷ rest) = ap (λ (ns : List (List ℕ)). a.name ∷ ns) (arg_line-names before args outer rest)

-- a scope's names are names of variables, and stay so

pub both_named : (ds es : List Declaration) → HaveNames ds → HaveNames es → HaveNames (ds ++ es)
both_named ds es h k = names_in-append is_variable_name ds es ∙ ap₂ (λ (a b : Bool). a && b) h k

kept_named : (ds es new : List Declaration) → HaveNames ds → HaveNames es → new ≡ kept (ds ++ es) → HaveNames new
kept_named ds es new h k is = subst (λ (all : List Declaration). HaveNames all) (sym is) (kept-fits is_variable_name (ds ++ es) (both_named ds es h k))

pub set-named : (result : Result (Unit {0}) Memory) (rows more all : List (List ℕ × List ℕ)) (us : List (List ℕ × Option (List ℕ))) → kept (declared rows us) ≡ declared rows us
    → HaveNames (declared rows us) → HaveNames (map env_row_of more) → OnOk result (all ≡ put_rows rows more) → OnErr result (all ≡ rows) → HaveNames (declared all us)
set-named (Ok done) rows more all us kept_all h k ok err =
    kept_named (declared rows us) (map env_row_of more) (declared all us) h k (ap (λ (es : List (List ℕ × List ℕ)). declared es us) ok ∙ declared-set rows more us kept_all)
set-named (Err memory) rows more all us kept_all h k ok err = subst (λ (es : List (List ℕ × List ℕ)). HaveNames (declared es us)) (sym err) h

pub given-named : (result : Result (Unit {0}) Memory) (rows : List (List ℕ × List ℕ)) (us more all : List (List ℕ × Option (List ℕ))) → kept (declared rows us) ≡ declared rows us
    → HaveNames (declared rows us) → HaveNames (map arg_row_of more) → OnOk result (all ≡ give_rows us more) → OnErr result (all ≡ us) → HaveNames (declared rows all)
given-named (Ok done) rows us more all kept_all h k ok err =
    kept_named (declared rows us) (map arg_row_of more) (declared rows all) h k (ap (λ (es : List (List ℕ × Option (List ℕ))). declared rows es) ok ∙ declared-given rows us more kept_all)
given-named (Err memory) rows us more all kept_all h k ok err = subst (λ (es : List (List ℕ × Option (List ℕ))). HaveNames (declared rows es)) (sym err) h

-- the names of the two maps of a scope are those of its declarations

split_named : (ds es : List Declaration) → HaveNames (ds ++ es) → HaveNames ds × HaveNames es
split_named ds es h = and-split (list_all is_variable_name (names_in ds)) (list_all is_variable_name (names_in es)) (sym (names_in-append is_variable_name ds es) ∙ h)

pub envs_named : (rows : List (List ℕ × List ℕ)) (us : List (List ℕ × Option (List ℕ))) → HaveNames (declared rows us) → HaveNames (map env_row_of rows)
envs_named rows us h = (split_named (map env_row_of rows) (map arg_row_of us) h).0

pub args_named : (rows : List (List ℕ × List ℕ)) (us : List (List ℕ × Option (List ℕ))) → HaveNames (declared rows us) → HaveNames (map arg_row_of us)
args_named rows us h = (split_named (map env_row_of rows) (map arg_row_of us) h).1
