-- What follows about requests: that of a well-formed command may be given to an executor.
use Rattle.std.specs.Prelude.{◌≡◌, ℕ, Bool, true, false, ◌&&◌, ◌||◌, not, Result, Ok, Err, List, [], ◌∷◌, ◌++◌, map, length, ◌==◌, refl}
use Rattle.std.proofs.Common.{ap, sym, ◌∙◌, true≢false}
use Rattle.std.specs.List.{list_any, zip}
use Rattle.trees.specs.TreeMap.{TreeMap}
use Rattle.trees.specs.Subtree.{subtree}
use Rattle.paths.proofs.FrontLaws.{both_first, both_second, both_hold}
use Rattle.runs.specs.Run.{targets_clash, is_root, mounts_fit, ids_differ, ids_of, fits_request}
use Rattle.trees.specs.declared.cause.Cause.{Cause}
use Rattle.runs.specs.declared.run.RunBind.{RunBind}
use Rattle.runs.specs.declared.run.RunRequest.{RunRequest}
use Rattle.llb.specs.declared.op.Bind.{Bind}
use Rattle.llb.specs.declared.op.Exec.{Exec}
use Rattle.llb.specs.WellFormed.{is_environment, is_well_formed_exec, targets_of}
use Rattle.plans.specs.Request.{with_bind, binds_of, request_with, request_of}

-- the targets of binds, as the operation names them and as its request does
abbrev pub named_targets : List Bind → List (List (List ℕ))
named_targets binds = map (λ bind. bind.target) binds

abbrev pub bound_targets : List RunBind → List (List (List ℕ))
bound_targets binds = map (λ bind. bind.target) binds

either_false : (a b : Bool) → (a || b) ≡ false → (a ≡ false) × (b ≡ false)
either_false true b e = absurd (true≢false e)
either_false false b e = (refl, e)

not_false : (b : Bool) → not b ≡ true → b ≡ false
not_false true e = sym e
not_false false e = refl

none-after : (test : List (List ℕ) → Bool) (ps qs : List (List (List ℕ))) → list_any test (ps ++ qs) ≡ false → list_any test qs ≡ false
none-after test [] qs e = e
none-after test (p ∷ ps) qs e = none-after test ps qs (either_false (test p) _ e).1

fit-after : (ps qs : List (List (List ℕ))) → mounts_fit (ps ++ qs) ≡ true → mounts_fit qs ≡ true
fit-after [] qs e = e
fit-after (p ∷ ps) qs e = fit-after ps qs (both_second (not (list_any (targets_clash p) (ps ++ qs))) _ (both_second (not (is_root p)) _ e))

-- what binds keep when their trees are looked up: whatever stands beside them, no test holds of a target of which none held, and
-- targets that fitted fit
record Kept (binds : List Bind) (bound : List RunBind) : Type 0 where
  none : (test : List (List ℕ) → Bool) (others : List (List (List ℕ))) → list_any test (named_targets binds ++ others) ≡ false → list_any test (bound_targets bound ++ others) ≡ false
  fit : (others : List (List (List ℕ))) → mounts_fit (named_targets binds ++ others) ≡ true → mounts_fit (bound_targets bound ++ others) ≡ true

kept-none : (binds : List Bind) → Kept binds []
kept-none binds = record { none = λ test others. none-after test (named_targets binds) others; fit = λ others. fit-after (named_targets binds) others }

kept-more : (bind : Bind) (binds : List Bind) (tree : TreeMap) (bound : List RunBind) → Kept binds bound → Kept (bind ∷ binds) (record { target = bind.target; tree = tree; rw = bind.rw } ∷ bound)
kept-more bind binds tree bound kept = record {
  none = λ test others e i. (either_false (test bind.target) _ e).0 i || kept.none test others (either_false (test bind.target) _ e).1 i;
  fit = λ others e.
      let rest = both_second (not (is_root bind.target)) _ e in
      let apart = kept.none (targets_clash bind.target) others (not_false _ (both_first _ _ rest)) in
      both_hold _ _ (both_first _ _ e) (both_hold _ _ (ap not apart) (kept.fit others (both_second (not (list_any (targets_clash bind.target) (named_targets binds ++ others))) _ rest)));
}

kept-with : (bind : Bind) (binds : List Bind) (bound : List RunBind) (tree : Result TreeMap Cause) (rest : Result (List RunBind) Cause) → ((more : List RunBind) → rest ≡ Ok more → Kept binds more) → with_bind bind tree rest ≡ Ok bound → Kept (bind ∷ binds) bound
kept-with bind binds bound (Err cause) rest kept e = cc
kept-with bind binds bound (Ok tree) (Err cause) kept e = cc
kept-with bind binds bound (Ok tree) (Ok more) kept e =
    let same : record { target = bind.target; tree = tree; rw = bind.rw } ∷ more ≡ bound = cc in
    rw (← same) (kept-more bind binds tree more (kept more refl))

kept-binds : (binds : List Bind) (trees : List TreeMap) (bound : List RunBind) → binds_of (zip binds trees) ≡ Ok bound → Kept binds bound
kept-binds [] trees bound e = let same : [] ≡ bound = cc in rw (← same) (kept-none [])
kept-binds (bind ∷ binds) [] bound e = let same : [] ≡ bound = cc in rw (← same) (kept-none (bind ∷ binds))
kept-binds (bind ∷ binds) (tree ∷ trees) bound e = kept-with bind binds bound (subtree tree bind.source) (binds_of (zip binds trees)) (kept-binds binds trees) e

-- what the mounts of a well-formed command keep
mounts-formed : (exec : Exec) → is_well_formed_exec exec ≡ true → (mounts_fit (targets_of exec) && ids_differ (ids_of exec.caches)) ≡ true
mounts-formed exec e = both_second (is_environment exec.env) _ (both_second (not (length exec.words == 0)) _ e)

fits-with : (exec : Exec) (root : TreeMap) (binds : Result (List RunBind) Cause) (request : RunRequest) → is_well_formed_exec exec ≡ true → ((bound : List RunBind) → binds ≡ Ok bound → Kept exec.binds bound) → request_with exec root binds ≡ Ok request → fits_request request ≡ true
fits-with exec root (Err cause) request formed kept e = cc
fits-with exec root (Ok bound) request formed kept e =
    let whole : RunRequest = record { root = root; binds = bound; caches = exec.caches; env = exec.env; dir = exec.dir; user = exec.user; words = exec.words } in
    let same : whole ≡ request = cc in
    let mounts = mounts-formed exec formed in
    ap fits_request (sym same) ∙ both_hold _ _ ((kept bound refl).fit (map (λ cache. cache.target) exec.caches) (both_first _ _ mounts)) (both_second (mounts_fit (targets_of exec)) _ mounts)

-- the request of a well-formed command, on whatever trees, is one that an executor takes
pub request_of-fits : (exec : Exec) (root : TreeMap) (trees : List TreeMap) (request : RunRequest) → is_well_formed_exec exec ≡ true
    → request_of exec root trees ≡ Ok request → fits_request request ≡ true
request_of-fits exec root trees request formed e = fits-with exec root (binds_of (zip exec.binds trees)) request formed (kept-binds exec.binds trees) e

with_caches : (exec : Exec) (root : TreeMap) (binds : Result (List RunBind) Cause) (request : RunRequest) → request_with exec root binds ≡ Ok request
    → request.caches ≡ exec.caches
with_caches exec root (Err cause) request e = cc
with_caches exec root (Ok binds) request e =
    let same : record { root = root; binds = binds; caches = exec.caches; env = exec.env; dir = exec.dir; user = exec.user; words = exec.words } ≡ request = cc in
    ap (λ r. r.caches) (sym same)

-- a command's request uses the command's caches
pub request_of-caches : (exec : Exec) (root : TreeMap) (trees : List TreeMap) (request : RunRequest) → request_of exec root trees ≡ Ok request
    → request.caches ≡ exec.caches
request_of-caches exec root trees request e = with_caches exec root (binds_of (zip exec.binds trees)) request e
