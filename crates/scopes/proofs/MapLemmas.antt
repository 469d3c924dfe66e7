-- What the two maps of a scope hold, as what is said of names.
use Rattle.std.proofs.Common.{◌≡◌, ℕ, List, [], ◌∷◌, ◌++◌, map, Option, Some, None, Result, Ok, Err, OnOk, OnErr, refl, ap, ap₂, sym, ◌∙◌, subst, append-nil, is_some}
use Rattle.std.specs.Prelude.{if◌then◌else◌}
use Rattle.std.specs.List.{filter_map}
use Rattle.std.specs.Map.{lookup}
use Rattle.std.specs.Str.{bytes_eq}
use Rattle.std.specs.Option.{option_or}
use Rattle.plain.specs.declared.memory.Memory.{Memory}
use Rattle.named.specs.Rows.{put_row, put_rows, give_row, give_rows, has_row}
use Rattle.scopes.specs.Scope.{or_else, value_in, run_env, kept}
use Rattle.scopes.proofs.Said.{Said, env_said, arg_said, last, settled, put, found, flat}
use Rattle.scopes.proofs.SaidLemmas.{either, settled-push, found-last}
use Rattle.scopes.proofs.LineLemmas.{still_kept, kept-step}
use Rattle.scopes.proofs.ScopeLemmas.{env_said-append, arg_said-append, env_said-kept, arg_said-kept, last_env-is, last_arg-is, env_of, arg_of, kept-is, row_of, other_row_of, filter_map-same, run_env-is, env_said-arg_of, arg_said-arg_of}
use Rattle.scopes.specs.PrivateMaps.{env_row_of, arg_row_of, declared, variable_rows, argument_row, argument_rows}
use Rattle.scopes.specs.declared.declaration.Declaration.{Declaration}
use Rattle.scopes.specs.declared.declaration.Declaration.TheVariants.{Env, Arg}
use Rattle.plain.specs.declared.variable.Variable.{Variable}

or_same : (o p : Option (List ℕ)) → option_or o p ≡ or_else o p
or_same None p = refl
or_same (Some t) p = refl

-- a row is found where one has the name
found-row : (n : List ℕ) (es : List (List ℕ × List ℕ)) → is_some (lookup (bytes_eq n) es) ≡ has_row n es
found-row n [] = refl
found-row n (e ∷ es) = either n e.0 (λ s h. rw h refl) (λ h. rw h (found-row n es))

-- what the entries of ENVs say, and those of ARGs
abbrev pub variable_said : List (List ℕ × List ℕ) → Said
variable_said es = map (λ e. (e.0, Some e.1)) es

abbrev pub argument_said : List (List ℕ × Option (List ℕ)) → Said
argument_said us = map (λ e. (e.0, e.1)) us

args-are : (us : List (List ℕ × Option (List ℕ))) → map arg_row_of us ≡ map arg_of (argument_said us)
args-are [] = refl
args-are (e ∷ us) = ap (λ (ds : List Declaration). Arg e.0 e.1 ∷ ds) (args-are us)

envs-are : (es : List (List ℕ × List ℕ)) → map env_row_of es ≡ filter_map env_of (variable_said es)
envs-are [] = refl
envs-are (e ∷ es) = ap (λ (ds : List Declaration). Env e.0 e.1 ∷ ds) (envs-are es)

env_said-envs : (es : List (List ℕ × List ℕ)) → env_said (map env_row_of es) ≡ variable_said es
env_said-envs [] = refl
env_said-envs (e ∷ es) = ap (λ (ps : Said). (e.0, Some e.1) ∷ ps) (env_said-envs es)

arg_said-envs : (es : List (List ℕ × List ℕ)) → arg_said (map env_row_of es) ≡ []
arg_said-envs [] = refl
arg_said-envs (e ∷ es) = arg_said-envs es

env_said-declared : (es : List (List ℕ × List ℕ)) (us : List (List ℕ × Option (List ℕ))) → env_said (declared es us) ≡ variable_said es
env_said-declared es us =
    env_said-append (map env_row_of es) (map arg_row_of us)
    ∙ ap₂ (λ (ps qs : Said). ps ++ qs) (env_said-envs es) (ap env_said (args-are us) ∙ env_said-arg_of (argument_said us)) ∙ append-nil (variable_said es)

arg_said-declared : (es : List (List ℕ × List ℕ)) (us : List (List ℕ × Option (List ℕ))) → arg_said (declared es us) ≡ argument_said us
arg_said-declared es us =
    arg_said-append (map env_row_of es) (map arg_row_of us)
    ∙ ap₂ (λ (ps qs : Said). ps ++ qs) (arg_said-envs es) (ap arg_said (args-are us) ∙ arg_said-arg_of (argument_said us))

-- what is kept in full is settled
variables-settled : (es : List (List ℕ × List ℕ)) (us : List (List ℕ × Option (List ℕ))) → kept (declared es us) ≡ declared es us → settled (variable_said es) ≡ variable_said es
variables-settled es us h = ap settled (sym (env_said-declared es us)) ∙ sym (env_said-kept (declared es us)) ∙ ap env_said h ∙ env_said-declared es us

arguments-settled : (es : List (List ℕ × List ℕ)) (us : List (List ℕ × Option (List ℕ))) → kept (declared es us) ≡ declared es us → settled (argument_said us) ≡ argument_said us
arguments-settled es us h = ap settled (sym (arg_said-declared es us)) ∙ sym (arg_said-kept (declared es us)) ∙ ap arg_said h ∙ arg_said-declared es us

-- insertions

variable_said-insert : (es : List (List ℕ × List ℕ)) (k : List ℕ) (v : List ℕ) → variable_said (put_row es k v) ≡ put k (Some v) (variable_said es)
variable_said-insert [] k v = refl
variable_said-insert (e ∷ es) k v =
    either k e.0 (λ s h. rw h refl) (λ h. rw h (ap (λ (ps : Said). (e.0, Some e.1) ∷ ps) (variable_said-insert es k v)))

given-put : (us : List (List ℕ × Option (List ℕ))) (n : List ℕ) (o : Option (List ℕ)) → argument_said (give_row us n o) ≡ put n o (argument_said us)
given-put [] n o = refl
given-put (e ∷ us) n o =
    either n e.0
    (λ s h. rw h (ap (λ (v : Option (List ℕ)). (e.0, v) ∷ argument_said us) (or_same o e.1)))
    (λ h. rw h (ap (λ (ps : Said). (e.0, e.1) ∷ ps) (given-put us n o)))

found-arguments : (n : List ℕ) (us : List (List ℕ × Option (List ℕ))) → found n (argument_said us) ≡ lookup (bytes_eq n) us
found-arguments n [] = refl
found-arguments n (e ∷ us) = ap (λ (o : Option (Option (List ℕ))). if bytes_eq n e.0 then Some e.1 else o) (found-arguments n us)

found-variables : (n : List ℕ) (es : List (List ℕ × List ℕ)) → flat (found n (variable_said es)) ≡ lookup (bytes_eq n) es
found-variables n [] = refl
found-variables n (e ∷ es) = either n e.0 (λ s h. rw h refl) (λ h. rw h (found-variables n es))

-- a declaration is added

kept-more : (es : List (List ℕ × List ℕ)) (us : List (List ℕ × Option (List ℕ))) (d : Declaration)
    → kept (declared es us ++ d ∷ []) ≡ filter_map env_of (settled (variable_said es ++ env_said (d ∷ []))) ++ map arg_of (settled (argument_said us ++ arg_said (d ∷ [])))
kept-more es us d =
    kept-is (declared es us ++ d ∷ [])
    ∙ ap₂ (λ (ps qs : Said). filter_map env_of (settled ps) ++ map arg_of (settled qs))
    (env_said-append (declared es us) (d ∷ []) ∙ ap (λ (ps : Said). ps ++ env_said (d ∷ [])) (env_said-declared es us))
    (arg_said-append (declared es us) (d ∷ []) ∙ ap (λ (ps : Said). ps ++ arg_said (d ∷ [])) (arg_said-declared es us))

declared-env : (es : List (List ℕ × List ℕ)) (us : List (List ℕ × Option (List ℕ))) (n v : List ℕ) → kept (declared es us) ≡ declared es us → declared (put_row es n v) us ≡ kept (declared es us ++ Env n v ∷ [])
declared-env es us n v h =
    ap₂ (λ (xs ys : List Declaration). xs ++ ys)
    (envs-are (put_row es n v) ∙ ap (filter_map env_of)
    (variable_said-insert es n v ∙ ap (put n (Some v)) (sym (variables-settled es us h)) ∙ sym (settled-push n (Some v) (variable_said es))))
    (args-are us ∙ ap (map arg_of) (sym (arguments-settled es us h) ∙ ap settled (sym (append-nil (argument_said us)))))
    ∙ sym (kept-more es us (Env n v))

declared-arg : (es : List (List ℕ × List ℕ)) (us : List (List ℕ × Option (List ℕ))) (n : List ℕ) (o : Option (List ℕ)) → kept (declared es us) ≡ declared es us → declared es (give_row us n o) ≡ kept (declared es us ++ Arg n o ∷ [])
declared-arg es us n o h =
    ap₂ (λ (xs ys : List Declaration). xs ++ ys)
    (envs-are es ∙ ap (filter_map env_of) (sym (variables-settled es us h) ∙ ap settled (sym (append-nil (variable_said es)))))
    (args-are (give_row us n o) ∙ ap (map arg_of) (given-put us n o ∙ ap (put n o) (sym (arguments-settled es us h)) ∙ sym (settled-push n o (argument_said us))))
    ∙ sym (kept-more es us (Arg n o))

-- rows are added, one after another

pub declared-set : (es more : List (List ℕ × List ℕ)) (us : List (List ℕ × Option (List ℕ))) → kept (declared es us) ≡ declared es us → declared (put_rows es more) us ≡ kept (declared es us ++ map env_row_of more)
declared-set es [] us h = sym (ap kept (append-nil (declared es us)) ∙ h)
declared-set es (row ∷ more) us h =
    let step : declared (put_row es row.0 row.1) us ≡ kept (declared es us ++ Env row.0 row.1 ∷ []) = declared-env es us row.0 row.1 h in
    declared-set (put_row es row.0 row.1) more us (still_kept (declared es us ++ Env row.0 row.1 ∷ []) (declared (put_row es row.0 row.1) us) step)
    ∙ kept-step (declared es us) (declared (put_row es row.0 row.1) us) (kept (declared es us ++ map env_row_of (row ∷ more))) (Env row.0 row.1) (map env_row_of (row ∷ more)) (map env_row_of more) refl step refl

pub declared-given : (es : List (List ℕ × List ℕ)) (us more : List (List ℕ × Option (List ℕ))) → kept (declared es us) ≡ declared es us → declared es (give_rows us more) ≡ kept (declared es us ++ map arg_row_of more)
declared-given es us [] h = sym (ap kept (append-nil (declared es us)) ∙ h)
declared-given es us (row ∷ more) h =
    let step : declared es (give_row us row.0 row.1) ≡ kept (declared es us ++ Arg row.0 row.1 ∷ []) = declared-arg es us row.0 row.1 h in
    declared-given es (give_row us row.0 row.1) more (still_kept (declared es us ++ Arg row.0 row.1 ∷ []) (declared es (give_row us row.0 row.1)) step)
    ∙ kept-step (declared es us) (declared es (give_row us row.0 row.1)) (kept (declared es us ++ map arg_row_of (row ∷ more))) (Arg row.0 row.1) (map arg_row_of (row ∷ more)) (map arg_row_of more) refl step refl

-- what a scope is after rows were added, or weren't

pub set-scope : (result : Result (Unit {0}) Memory) (es fs more : List (List ℕ × List ℕ)) (us : List (List ℕ × Option (List ℕ))) (old : List Declaration) → kept (declared es us) ≡ declared es us → declared es us ≡ old → OnOk result (fs ≡ put_rows es more) → OnOk result (declared fs us ≡ kept (old ++ map env_row_of more))
set-scope (Ok done) es fs more us old h view ok = ap (λ gs. declared gs us) ok ∙ declared-set es more us h ∙ ap (λ (ds : List Declaration). kept (ds ++ map env_row_of more)) view
set-scope (Err memory) es fs more us old h view ok = tt

pub given-scope : (result : Result (Unit {0}) Memory) (es : List (List ℕ × List ℕ)) (us ws more : List (List ℕ × Option (List ℕ))) (old : List Declaration) → kept (declared es us) ≡ declared es us → declared es us ≡ old → OnOk result (ws ≡ give_rows us more) → OnOk result (declared es ws ≡ kept (old ++ map arg_row_of more))
given-scope (Ok done) es us ws more old h view ok = ap (λ gs. declared es gs) ok ∙ declared-given es us more h ∙ ap (λ (ds : List Declaration). kept (ds ++ map arg_row_of more)) view
given-scope (Err memory) es us ws more old h view ok = tt

pub set-kept : (result : Result (Unit {0}) Memory) (es fs more : List (List ℕ × List ℕ)) (us : List (List ℕ × Option (List ℕ))) → kept (declared es us) ≡ declared es us → OnOk result (fs ≡ put_rows es more) → OnErr result (fs ≡ es) → kept (declared fs us) ≡ declared fs us
set-kept (Ok done) es fs more us h ok err = still_kept (declared es us ++ map env_row_of more) (declared fs us) (ap (λ gs. declared gs us) ok ∙ declared-set es more us h)
set-kept (Err memory) es fs more us h ok err = subst (λ gs. kept (declared gs us) ≡ declared gs us) (sym err) h

pub given-kept : (result : Result (Unit {0}) Memory) (es : List (List ℕ × List ℕ)) (us ws more : List (List ℕ × Option (List ℕ))) → kept (declared es us) ≡ declared es us → OnOk result (ws ≡ give_rows us more) → OnErr result (ws ≡ us) → kept (declared es ws) ≡ declared es ws
given-kept (Ok done) es us ws more h ok err = still_kept (declared es us ++ map arg_row_of more) (declared es ws) (ap (λ gs. declared es gs) ok ∙ declared-given es us more h)
given-kept (Err memory) es us ws more h ok err = subst (λ gs. kept (declared es gs) ≡ declared es gs) (sym err) h

-- what names have

last-variables : (es : List (List ℕ × List ℕ)) (us : List (List ℕ × Option (List ℕ))) (n : List ℕ) → kept (declared es us) ≡ declared es us
    → last n (variable_said es) ≡ lookup (bytes_eq n) es
last-variables es us n h = found-last n (variable_said es) (variables-settled es us h) ∙ found-variables n es

value_in-declared : (es : List (List ℕ × List ℕ)) (us : List (List ℕ × Option (List ℕ))) (n : List ℕ) → kept (declared es us) ≡ declared es us
    → value_in (declared es us) n ≡ or_else (lookup (bytes_eq n) es) (flat (lookup (bytes_eq n) us))
value_in-declared es us n h =
    ap₂ (λ a b. or_else a b)
    (last_env-is n (declared es us) ∙ ap (last n) (env_said-declared es us) ∙ last-variables es us n h)
    (last_arg-is n (declared es us) ∙ ap (last n) (arg_said-declared es us) ∙ found-last n (argument_said us) (arguments-settled es us h) ∙ ap flat (found-arguments n us))

-- what looking a name up in the two maps finds is its value
pub value_in-found : (es : List (List ℕ × List ℕ)) (us : List (List ℕ × Option (List ℕ))) (n : List ℕ) (scope : List Declaration) (a : Option (List ℕ)) (b : Option (Option (List ℕ)))
    → kept (declared es us) ≡ declared es us → declared es us ≡ scope → a ≡ lookup (bytes_eq n) es → b ≡ lookup (bytes_eq n) us
    → or_else a (flat b) ≡ value_in scope n
value_in-found es us n scope a b h i j m =
    ap₂ (λ (u : Option (List ℕ)) (w : Option (Option (List ℕ))). or_else u (flat w)) j m ∙ sym (value_in-declared es us n h) ∙ ap (λ ds. value_in ds n) i

-- RUN's environment

variable_rows-are : (es : List (List ℕ × List ℕ)) → variable_rows es ≡ filter_map row_of (variable_said es)
variable_rows-are [] = refl
variable_rows-are (e ∷ es) = ap (λ (rows : List Variable). record { name = e.0; value = e.1 } ∷ rows) (variable_rows-are es)

over_arguments : (h : List ℕ × Option (List ℕ) → Option Variable) (us : List (List ℕ × Option (List ℕ))) → filter_map (λ e. h (e.0, e.1)) us ≡ filter_map h (argument_said us)
over_arguments h [] = refl
over_arguments h (e ∷ us) = rw (over_arguments h us) refl

pub run_env-declared : (es : List (List ℕ × List ℕ)) (us : List (List ℕ × Option (List ℕ))) → kept (declared es us) ≡ declared es us → run_env (declared es us) ≡ variable_rows es ++ argument_rows es us
run_env-declared es us h =
    run_env-is (declared es us)
    ∙ ap₂ (λ (ps qs : Said). filter_map row_of (settled ps) ++ filter_map (other_row_of ps) (settled qs)) (env_said-declared es us) (arg_said-declared es us)
    ∙ ap₂ (λ (ps qs : Said). filter_map row_of ps ++ filter_map (other_row_of (variable_said es)) qs) (variables-settled es us h) (arguments-settled es us h)
    ∙ ap₂ (λ (xs ys : List Variable). xs ++ ys)
    (sym (variable_rows-are es))
    (filter_map-same (other_row_of (variable_said es)) (λ p. argument_row (has_row p.0 es) p.0 p.1) (argument_said us)
    (λ p. ap (λ o. argument_row (is_some o) p.0 p.1) (last-variables es us p.0 h) ∙ ap (λ b. argument_row b p.0 p.1) (found-row p.0 es))
    ∙ sym (over_arguments (λ p. argument_row (has_row p.0 es) p.0 p.1) us))
