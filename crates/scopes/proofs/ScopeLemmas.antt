-- What is proved of declarations: what is kept of them means what all of them mean, and what one more of them does.
use Rattle.std.proofs.Common.{◌≡◌, ◌≢◌, ℕ, Bool, false, List, [], ◌∷◌, ◌++◌, map, Option, Some, None, refl, ap, ap₂, sym, ◌∙◌, append-nil, is_some}
use Rattle.std.specs.Prelude.{if◌then◌else◌, option_map}
use Rattle.std.specs.List.{filter_map}
use Rattle.std.specs.Str.{bytes_eq}
use Rattle.std.specs.Cmp.Lexicographic.{nat_list_eq_equiv}
use Rattle.scopes.specs.Scope.{or_else, where_same, last_env, last_arg, value_in, env_names, arg_names, without, firsts, env_row, run_env, kept}
use Rattle.scopes.proofs.Said.{Said, env_said, arg_said, last, apart, settled}
use Rattle.scopes.proofs.SaidLemmas.{or_else-none, either, last-append, last-settled, settled-settled, settled-append}
use Rattle.scopes.specs.declared.declaration.Declaration.{Declaration}
use Rattle.scopes.specs.declared.declaration.Declaration.TheVariants.{Env, Arg}
use Rattle.plain.specs.declared.variable.Variable.{Variable}

pub env_said-append : (ds es : List Declaration) → env_said (ds ++ es) ≡ env_said ds ++ env_said es
env_said-append [] es = refl
env_said-append (Env n text ∷ ds) es = ap (λ (ps : Said). (n, Some text) ∷ ps) (env_said-append ds es)
env_said-append (Arg n value ∷ ds) es = env_said-append ds es

pub arg_said-append : (ds es : List Declaration) → arg_said (ds ++ es) ≡ arg_said ds ++ arg_said es
arg_said-append [] es = refl
arg_said-append (Env n text ∷ ds) es = arg_said-append ds es
arg_said-append (Arg n value ∷ ds) es = ap (λ (ps : Said). (n, value) ∷ ps) (arg_said-append ds es)

pub last_env-is : (n : List ℕ) (ds : List Declaration) → last_env n ds ≡ last n (env_said ds)
last_env-is n [] = refl
last_env-is n (Env m text ∷ ds) = ap (λ o. or_else o (where_same n m (Some text))) (last_env-is n ds)
last_env-is n (Arg m value ∷ ds) = last_env-is n ds

pub last_arg-is : (n : List ℕ) (ds : List Declaration) → last_arg n ds ≡ last n (arg_said ds)
last_arg-is n [] = refl
last_arg-is n (Env m text ∷ ds) = last_arg-is n ds
last_arg-is n (Arg m value ∷ ds) = ap (λ o. or_else o (where_same n m value)) (last_arg-is n ds)

-- the names of what is said
abbrev names : Said → List (List ℕ)
names [] = []
names (p ∷ ps) = p.0 ∷ names ps

env_names-are : (ds : List Declaration) → env_names ds ≡ names (env_said ds)
env_names-are [] = refl
env_names-are (Env n text ∷ ds) = ap (λ (ns : List (List ℕ)). n ∷ ns) (env_names-are ds)
env_names-are (Arg n value ∷ ds) = env_names-are ds

arg_names-are : (ds : List Declaration) → arg_names ds ≡ names (arg_said ds)
arg_names-are [] = refl
arg_names-are (Env n text ∷ ds) = arg_names-are ds
arg_names-are (Arg n value ∷ ds) = ap (λ (ns : List (List ℕ)). n ∷ ns) (arg_names-are ds)

-- names with their last values
abbrev lasts : Said → List (List ℕ) → Said
lasts ps ns = map (λ n. (n, last n ps)) ns

lasts-without : (p : List ℕ × Option (List ℕ)) (ps : Said) (ns : List (List ℕ)) → lasts (p ∷ ps) (without p.0 ns) ≡ apart p.0 (lasts ps ns)
lasts-without p ps [] = refl
lasts-without p ps (n ∷ ns) =
    either p.0 n
    (λ s e. rw e (lasts-without p ps ns))
    (λ e. let f : bytes_eq n p.0 ≡ false = nat_list_eq_equiv.symm n p.0 ∙ e in
    rw (e, f) (ap₂ (λ (o : Option (List ℕ)) (qs : Said). (n, o) ∷ qs) (or_else-none (last n ps)) (lasts-without p ps ns)))

-- what is settled are the names in the order in which they come first, with their last values
lasts-firsts : (ps : Said) → lasts ps (firsts (names ps)) ≡ settled ps
lasts-firsts [] = refl
lasts-firsts (p ∷ ps) =
    ap₂ (λ (b : Bool) (qs : Said). (p.0, or_else (last p.0 ps) (if b then p.1 else None)) ∷ qs) (nat_list_eq_equiv.refl p.0)
    (lasts-without p ps (firsts (names ps)) ∙ ap (apart p.0) (lasts-firsts ps))

-- the ENV of a name that has a value
abbrev pub env_of : List ℕ × Option (List ℕ) → Option Declaration
env_of p = option_map (λ text. Env p.0 text) p.1

abbrev pub arg_of : List ℕ × Option (List ℕ) → Declaration
arg_of p = Arg p.0 p.1

over_lasts : {X : Type 0} (h : List ℕ × Option (List ℕ) → Option X) (f : List ℕ → Option (List ℕ)) (ps : Said) (ns : List (List ℕ)) → ((n : List ℕ) → f n ≡ last n ps)
    → filter_map (λ n. h (n, f n)) ns ≡ filter_map h (lasts ps ns)
over_lasts h f ps [] i = refl
over_lasts h f ps (n ∷ ns) i = rw (i n, over_lasts h f ps ns i) refl

map_over_lasts : {X : Type 0} (h : List ℕ × Option (List ℕ) → X) (f : List ℕ → Option (List ℕ)) (ps : Said) (ns : List (List ℕ)) → ((n : List ℕ) → f n ≡ last n ps)
    → map (λ n. h (n, f n)) ns ≡ map h (lasts ps ns)
map_over_lasts h f ps [] i = refl
map_over_lasts h f ps (n ∷ ns) i = rw (i n, map_over_lasts h f ps ns i) refl

-- what is kept is what is settled of the ENVs and of the ARGs
pub kept-is : (ds : List Declaration) → kept ds ≡ filter_map env_of (settled (env_said ds)) ++ map arg_of (settled (arg_said ds))
unfolding kept
kept-is ds =
    ap₂ (λ (xs ys : List Declaration). xs ++ ys)
    (over_lasts env_of (λ n. last_env n ds) (env_said ds) (firsts (env_names ds)) (λ n. last_env-is n ds)
    ∙ ap (λ ns. filter_map env_of (lasts (env_said ds) (firsts ns))) (env_names-are ds) ∙ ap (filter_map env_of) (lasts-firsts (env_said ds)))
    (map_over_lasts arg_of (λ n. last_arg n ds) (arg_said ds) (firsts (arg_names ds)) (λ n. last_arg-is n ds)
    ∙ ap (λ ns. map arg_of (lasts (arg_said ds) (firsts ns))) (arg_names-are ds) ∙ ap (map arg_of) (lasts-firsts (arg_said ds)))

-- each name has a value
abbrev IsFilled : Said → Type 0
IsFilled [] = Unit {0}
IsFilled (p ∷ ps) = ((text : List ℕ) × (p.1 ≡ Some text)) × IsFilled ps

apart-filled : (n : List ℕ) (ps : Said) → IsFilled ps → IsFilled (apart n ps)
apart-filled n [] h = tt
apart-filled n (p ∷ ps) h = either n p.0 (λ s e. rw e (apart-filled n ps h.1)) (λ e. rw e (h.0, apart-filled n ps h.1))

or_else-filled : (a b : Option (List ℕ)) → ((text : List ℕ) × (b ≡ Some text)) → (text : List ℕ) × (or_else a b ≡ Some text)
or_else-filled (Some t) b h = (t, refl)
or_else-filled None b h = h

settled-filled : (ps : Said) → IsFilled ps → IsFilled (settled ps)
settled-filled [] h = tt
settled-filled (p ∷ ps) h = (or_else-filled (last p.0 ps) p.1 h.0, apart-filled p.0 (settled ps) (settled-filled ps h.1))

env_said-filled : (ds : List Declaration) → IsFilled (env_said ds)
env_said-filled [] = tt
env_said-filled (Env n text ∷ ds) = ((text, refl), env_said-filled ds)
env_said-filled (Arg n value ∷ ds) = env_said-filled ds

env_said-first : (n : List ℕ) (o : Option (List ℕ)) (ps : Said) (text : List ℕ) → o ≡ Some text → env_said (filter_map env_of ((n, o) ∷ ps)) ≡ (n, o) ∷ env_said (filter_map env_of ps)
env_said-first n (Some t) ps text h = refl
env_said-first n None ps text h = cc

env_said-env_of : (ps : Said) → IsFilled ps → env_said (filter_map env_of ps) ≡ ps
env_said-env_of [] h = refl
env_said-env_of (p ∷ ps) h = env_said-first p.0 p.1 ps h.0.0 h.0.1 ∙ ap (λ (qs : Said). p ∷ qs) (env_said-env_of ps h.1)

arg_said-first : (n : List ℕ) (o : Option (List ℕ)) (ps : Said) → arg_said (filter_map env_of ((n, o) ∷ ps)) ≡ arg_said (filter_map env_of ps)
arg_said-first n (Some t) ps = refl
arg_said-first n None ps = refl

arg_said-env_of : (ps : Said) → arg_said (filter_map env_of ps) ≡ []
arg_said-env_of [] = refl
arg_said-env_of (p ∷ ps) = arg_said-first p.0 p.1 ps ∙ arg_said-env_of ps

pub env_said-arg_of : (ps : Said) → env_said (map arg_of ps) ≡ []
env_said-arg_of [] = refl
env_said-arg_of (p ∷ ps) = env_said-arg_of ps

pub arg_said-arg_of : (ps : Said) → arg_said (map arg_of ps) ≡ ps
arg_said-arg_of [] = refl
arg_said-arg_of (p ∷ ps) = ap (λ (qs : Said). p ∷ qs) (arg_said-arg_of ps)

pub env_said-kept : (ds : List Declaration) → env_said (kept ds) ≡ settled (env_said ds)
env_said-kept ds =
    ap env_said (kept-is ds) ∙ env_said-append (filter_map env_of (settled (env_said ds))) (map arg_of (settled (arg_said ds)))
    ∙ ap₂ (λ (ps qs : Said). ps ++ qs) (env_said-env_of (settled (env_said ds)) (settled-filled (env_said ds) (env_said-filled ds))) (env_said-arg_of (settled (arg_said ds)))
    ∙ append-nil (settled (env_said ds))

pub arg_said-kept : (ds : List Declaration) → arg_said (kept ds) ≡ settled (arg_said ds)
arg_said-kept ds =
    ap arg_said (kept-is ds) ∙ arg_said-append (filter_map env_of (settled (env_said ds))) (map arg_of (settled (arg_said ds)))
    ∙ ap₂ (λ (ps qs : Said). ps ++ qs) (arg_said-env_of (settled (env_said ds))) (arg_said-arg_of (settled (arg_said ds)))

-- what is kept gives names the values that all declarations give them
pub value_in-kept : (ds : List Declaration) (n : List ℕ) → value_in (kept ds) n ≡ value_in ds n
value_in-kept ds n =
    ap₂ (λ a b. or_else a b)
    (last_env-is n (kept ds) ∙ ap (last n) (env_said-kept ds) ∙ last-settled n (env_said ds) ∙ sym (last_env-is n ds))
    (last_arg-is n (kept ds) ∙ ap (last n) (arg_said-kept ds) ∙ last-settled n (arg_said ds) ∙ sym (last_arg-is n ds))

-- what is kept may stand for all, whatever comes after
pub kept-append : (ds es : List Declaration) → kept (kept ds ++ es) ≡ kept (ds ++ es)
kept-append ds es =
    kept-is (kept ds ++ es)
    ∙ ap₂ (λ (ps qs : Said). filter_map env_of ps ++ map arg_of qs)
    (ap settled (env_said-append (kept ds) es ∙ ap (λ (ps : Said). ps ++ env_said es) (env_said-kept ds)) ∙ settled-append (env_said ds) (env_said es) ∙ ap settled (sym (env_said-append ds es)))
    (ap settled (arg_said-append (kept ds) es ∙ ap (λ (ps : Said). ps ++ arg_said es) (arg_said-kept ds)) ∙ settled-append (arg_said ds) (arg_said es) ∙ ap settled (sym (arg_said-append ds es)))
    ∙ sym (kept-is (ds ++ es))

pub kept-kept : (ds : List Declaration) → kept (kept ds) ≡ kept ds
kept-kept ds = ap kept (sym (append-nil (kept ds))) ∙ kept-append ds [] ∙ ap kept (append-nil ds)

-- the row of a name that an ENV sets, and of one that an ARG gives a value, where some ENVs are
abbrev pub row_of : List ℕ × Option (List ℕ) → Option Variable
row_of p = env_row p.0 p.1

abbrev pub other_row_of : Said → List ℕ × Option (List ℕ) → Option Variable
other_row_of es p = if is_some (last p.0 es) then None else env_row p.0 p.1

pub filter_map-same : {X Y : Type 0} (f g : X → Option Y) (xs : List X) → ((x : X) → f x ≡ g x) → filter_map f xs ≡ filter_map g xs
filter_map-same f g [] h = refl
filter_map-same f g (x ∷ xs) h = rw (h x, filter_map-same f g xs h) refl

pub run_env-is : (ds : List Declaration) → run_env ds ≡ filter_map row_of (settled (env_said ds)) ++ filter_map (other_row_of (env_said ds)) (settled (arg_said ds))
unfolding run_env
run_env-is ds =
    ap₂ (λ (xs ys : List Variable). xs ++ ys)
    (over_lasts row_of (λ n. last_env n ds) (env_said ds) (firsts (env_names ds)) (λ n. last_env-is n ds)
    ∙ ap (λ ns. filter_map row_of (lasts (env_said ds) (firsts ns))) (env_names-are ds) ∙ ap (filter_map row_of) (lasts-firsts (env_said ds)))
    (over_lasts (λ p. if is_some (last_env p.0 ds) then None else env_row p.0 p.1) (λ n. last_arg n ds) (arg_said ds) (firsts (arg_names ds)) (λ n. last_arg-is n ds)
    ∙ filter_map-same (λ p. if is_some (last_env p.0 ds) then None else env_row p.0 p.1) (other_row_of (env_said ds)) (lasts (arg_said ds) (firsts (arg_names ds)))
    (λ p. ap (λ o. if is_some o then None else env_row p.0 p.1) (last_env-is p.0 ds))
    ∙ ap (λ ns. filter_map (other_row_of (env_said ds)) (lasts (arg_said ds) (firsts ns))) (arg_names-are ds) ∙ ap (filter_map (other_row_of (env_said ds))) (lasts-firsts (arg_said ds)))

pub run_env-kept : (ds : List Declaration) → run_env (kept ds) ≡ run_env ds
run_env-kept ds =
    run_env-is (kept ds)
    ∙ ap₂ (λ (ps qs : Said). filter_map row_of (settled ps) ++ filter_map (other_row_of ps) (settled qs)) (env_said-kept ds) (arg_said-kept ds)
    ∙ ap₂ (λ (ps qs : Said). filter_map row_of ps ++ filter_map (other_row_of (settled (env_said ds))) qs) (settled-settled (env_said ds)) (settled-settled (arg_said ds))
    ∙ ap (λ (rows : List Variable). filter_map row_of (settled (env_said ds)) ++ rows)
    (filter_map-same (other_row_of (settled (env_said ds))) (other_row_of (env_said ds)) (settled (arg_said ds)) (λ p. ap (λ o. if is_some o then None else env_row p.0 p.1) (last-settled p.0 (env_said ds))))
    ∙ sym (run_env-is ds)

-- what one more declaration does

last_env-append : (n : List ℕ) (ds es : List Declaration) → last_env n (ds ++ es) ≡ or_else (last_env n es) (last_env n ds)
last_env-append n ds es =
    last_env-is n (ds ++ es) ∙ ap (last n) (env_said-append ds es) ∙ last-append n (env_said ds) (env_said es)
    ∙ ap₂ (λ a b. or_else a b) (sym (last_env-is n es)) (sym (last_env-is n ds))

last_arg-append : (n : List ℕ) (ds es : List Declaration) → last_arg n (ds ++ es) ≡ or_else (last_arg n es) (last_arg n ds)
last_arg-append n ds es =
    last_arg-is n (ds ++ es) ∙ ap (last n) (arg_said-append ds es) ∙ last-append n (arg_said ds) (arg_said es)
    ∙ ap₂ (λ a b. or_else a b) (sym (last_arg-is n es)) (sym (last_arg-is n ds))

value_in-append : (n : List ℕ) (ds es : List Declaration) → value_in (ds ++ es) n ≡ or_else (or_else (last_env n es) (last_env n ds)) (or_else (last_arg n es) (last_arg n ds))
value_in-append n ds es = ap₂ (λ a b. or_else a b) (last_env-append n ds es) (last_arg-append n ds es)

apart_names : (n m : List ℕ) → n ≢ m → bytes_eq n m ≡ false
apart_names n m h = either n m (λ s e. absurd (h s)) (λ e. e)

pub env-sets : (ds : List Declaration) (n text : List ℕ) → value_in (ds ++ Env n text ∷ []) n ≡ Some text
env-sets ds n text = value_in-append n ds (Env n text ∷ []) ∙ rw (nat_list_eq_equiv.refl n) refl

pub arg-sets : (ds : List Declaration) (n text : List ℕ) → last_env n ds ≡ None → value_in (ds ++ Arg n (Some text) ∷ []) n ≡ Some text
arg-sets ds n text h = value_in-append n ds (Arg n (Some text) ∷ []) ∙ rw (h, nat_list_eq_equiv.refl n) refl

pub env-beats : (ds : List Declaration) (n text : List ℕ) (value : Option (List ℕ)) → last_env n ds ≡ Some text → value_in (ds ++ Arg n value ∷ []) n ≡ Some text
env-beats ds n text value h = value_in-append n ds (Arg n value ∷ []) ∙ rw h refl

where_same-none : (n m : List ℕ) → where_same n m None ≡ None
where_same-none n m = either n m (λ s e. rw e refl) (λ e. rw e refl)

pub bare-leaves : (ds : List Declaration) (n m : List ℕ) → value_in (ds ++ Arg m None ∷ []) n ≡ value_in ds n
bare-leaves ds n m = value_in-append n ds (Arg m None ∷ []) ∙ ap (λ o. or_else (last_env n ds) (or_else o (last_arg n ds))) (where_same-none n m)

pub unnamed-leaves : (ds es : List Declaration) (n : List ℕ) → last_env n es ≡ None → last_arg n es ≡ None → value_in (ds ++ es) n ≡ value_in ds n
unnamed-leaves ds es n h i = value_in-append n ds es ∙ rw (h, i) refl

pub other_env-leaves : (ds : List Declaration) (n m text : List ℕ) → n ≢ m → value_in (ds ++ Env m text ∷ []) n ≡ value_in ds n
other_env-leaves ds n m text h = value_in-append n ds (Env m text ∷ []) ∙ rw (apart_names n m h) refl

pub other_arg-leaves : (ds : List Declaration) (n m : List ℕ) (value : Option (List ℕ)) → n ≢ m → value_in (ds ++ Arg m value ∷ []) n ≡ value_in ds n
other_arg-leaves ds n m value h = value_in-append n ds (Arg m value ∷ []) ∙ rw (apart_names n m h) refl
