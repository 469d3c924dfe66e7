-- What stops a vertex, and who holds which caches, through a history.
use Rattle.std.proofs.Common.{◌≡◌, ℕ, zero, suc, ◌==◌, Bool, true, false, not, ◌&&◌, cond, List, [], ◌∷◌, ◌++◌, length, map, Option, Some, None, is_some, Ok, Err, refl, sym, ap, ◌∙◌, subst}
use Rattle.std.specs.List.{list_any}
use Rattle.std.specs.Prelude.{nat_lt}
use Rattle.std.proofs.lemmas.Bool.{eqb-true, or_from}
use Rattle.std.proofs.lemmas.List.Folds.{list_any-append}
use Rattle.std.proofs.lemmas.List.Sums.{fold-append}
use Rattle.runs.specs.Run.{ids_differ, ids_of}
use Rattle.cachemounts.specs.Holds.{can_take, new_holds, of_holder, without_holder, is_holder, is_lawful}
use Rattle.cachemounts.proofs.HoldLemmas.{lawful-takes, lawful-filter, of_holder-takes, of_holder-without, length-new_holds, any_filter_none}
use Rattle.cachemounts.specs.Changes.{holds_then, holders}
use Rattle.cachemounts.proofs.ContentLemmas.{holders-push}
use Rattle.plans.specs.Plan.{Problem, vertex_value, uses_at, line_at}
use Rattle.trees.specs.Cause.{TreeOrCause}
use Rattle.cachemounts.specs.declared.holds.Hold.{Hold}
use Rattle.runs.specs.declared.run.CacheUse.{CacheUse}
use Rattle.board.specs.Readiness.{has_cause, any_below, stops}
use Rattle.board.specs.Legal.{vertex_out, vertex_out_then, settles, IsSettled, HasCause, settled_by, change_of, held_caches}
use Rattle.board.specs.declared.event.Happened.{Happened}
use Rattle.board.specs.declared.event.Happened.TheVariants.{Claimed}

any_below-same : (test other : ℕ → Bool) → ((k : ℕ) → test k ≡ other k) → (n : ℕ) → any_below test n ≡ any_below other n
any_below-same test other same zero = refl
any_below-same test other same (suc n) = rw (any_below-same test other same n, same n) refl

pub any_below-none : (test : ℕ → Bool) (n : ℕ) → ((k : ℕ) → test k ≡ false) → any_below test n ≡ false
any_below-none test zero none = refl
any_below-none test (suc n) none = or_from _ _ (any_below-none test n none) (none n)

-- what stops a vertex hangs on nothing but with what each vertex is settled
pub stops-same : (problem : Problem) (settled other : ℕ → Option TreeOrCause) → ((k : ℕ) → settled k ≡ other k) → (vertex : ℕ) → stops problem settled vertex ≡ stops problem other vertex
stops-same problem settled other same vertex =
    rw (same problem.target, any_below-same (λ k. has_cause (settled k) && not (nat_lt (line_at problem vertex) (line_at problem k))) (λ k. has_cause (other k) && not (nat_lt (line_at problem vertex) (line_at problem k))) (λ k. ap (λ v. has_cause v && not (nat_lt (line_at problem vertex) (line_at problem k))) (same k)) (length problem.vertices)) refl

no_cause_at : (b : Bool) (value : Option TreeOrCause) → (b ≡ true → has_cause value ≡ true → ⊥) → has_cause (cond b value None) ≡ false
no_cause_at false value none = refl
no_cause_at true value none = by_test (has_cause value) refl
  where
    by_test : (d : Bool) → has_cause value ≡ d → has_cause value ≡ false
    by_test true e = absurd (none refl e)
    by_test false e = e

pub has_cause-is : (value : Option TreeOrCause) → has_cause value ≡ true → (cause : _) × (value ≡ Some (Err cause))
has_cause-is (Some (Ok tree)) e = cc
has_cause-is (Some (Err cause)) e = (cause, refl)
has_cause-is None e = cc

-- where the target isn't settled and no vertex with a cause, nothing stops any vertex
pub nothing-stops : (problem : Problem) (history : List Happened) → ¬ IsSettled history problem.target → ((other : ℕ) → IsSettled history other → ¬ HasCause problem other) → (vertex : ℕ) → stops problem (settled_by problem history) vertex ≡ false
nothing-stops problem history target none vertex = or_from _ _ (unset (list_any (settles problem.target) history) refl) (any_below-none (λ other. has_cause (settled_by problem history other) && not (nat_lt (line_at problem vertex) (line_at problem other))) (length problem.vertices) (λ other. ap (λ b. b && not (nat_lt (line_at problem vertex) (line_at problem other))) (no_cause_at (list_any (settles other) history) (vertex_value problem other) (λ s c. none other s (has_cause-is (vertex_value problem other) c)))))
  where
    unset : (b : Bool) → list_any (settles problem.target) history ≡ b → is_some (cond (list_any (settles problem.target) history) (vertex_value problem problem.target) None) ≡ false
    unset true e = absurd (target e)
    unset false e = rw e refl

vertex_out_push : (history : List Happened) (happened : Happened) (worker : ℕ) → vertex_out (history ++ happened ∷ []) worker ≡ vertex_out_then worker (vertex_out history worker) happened
vertex_out_push history happened worker = fold-append (vertex_out_then worker) None history (happened ∷ [])

pub map_push : {A B : Type 0} (f : A → B) (xs : List A) (x : A) → map f (xs ++ x ∷ []) ≡ map f xs ++ f x ∷ []
map_push f [] x = refl
map_push f (y ∷ xs) x = ap (λ zs. f y ∷ zs) (map_push f xs x)

-- the holds of caches after one event more
pub held_caches-push : (problem : Problem) (history : List Happened) (happened : Happened) → held_caches problem (history ++ happened ∷ []) ≡ holds_then (held_caches problem history) (change_of problem happened)
held_caches-push problem history happened =
    ap holders (map_push (change_of problem) history happened) ∙ holders-push (map (change_of problem) history) (change_of problem happened)

-- the holds of caches after a history: those of workers that have a vertex out, as many as the vertex uses, and no two clash
pub record AreHeld (problem : Problem) (history : List Happened) : Type 0 where
  pub owners : (worker : ℕ) → vertex_out history worker ≡ None → is_holder worker (held_caches problem history) ≡ false
  pub counts : (worker vertex : ℕ) → vertex_out history worker ≡ Some vertex → length (of_holder worker (held_caches problem history)) ≡ length (uses_at problem vertex)
  pub lawful : is_lawful (held_caches problem history) ≡ true

pub AreHeld-begun : (problem : Problem) → AreHeld problem []
AreHeld-begun problem = record { owners = λ worker e. refl; counts = λ worker vertex e. absurd cc; lawful = refl }

holder_takings : (holder other : ℕ) (holds : List Hold) (mounts : List CacheUse) → (holder == other) ≡ false → is_holder other (new_holds holder holds mounts) ≡ false
holder_takings holder other holds [] e = refl
holder_takings holder other holds (mount ∷ mounts) e = or_from _ _ e (holder_takings holder other holds mounts e)

holder_gone : (holder : ℕ) (holds : List Hold) → is_holder holder (without_holder holder holds) ≡ false
holder_gone holder [] = refl
holder_gone holder (hold ∷ holds) = by_test (hold.holder == holder) refl (holder_gone holder holds)
  where
    by_test : (b : Bool) → (hold.holder == holder) ≡ b → is_holder holder (without_holder holder holds) ≡ false → is_holder holder (without_holder holder (hold ∷ holds)) ≡ false
    by_test true t rest = rw t rest
    by_test false t rest = rw t (or_from _ _ t rest)

pub AreHeld-claim : (problem : Problem) (history : List Happened) (worker vertex : ℕ) → AreHeld problem history → vertex_out history worker ≡ None → can_take (held_caches problem history) (uses_at problem vertex) ≡ true → ids_differ (ids_of (uses_at problem vertex)) ≡ true → AreHeld problem (history ++ Claimed worker vertex ∷ [])
AreHeld-claim problem history worker vertex is idle can differ = record {
  owners = λ by e. subst (λ b. is_holder by b ≡ false) (sym now) (owners by e (worker == by) refl);
  counts = λ by u e. subst (λ b. length (of_holder by b) ≡ length (uses_at problem u)) (sym now) (counts by u e (worker == by) refl);
  lawful = subst (λ b. is_lawful b ≡ true) (sym now) (lawful-takes worker holds (uses_at problem vertex) is.lawful can differ);
}
  where
    holds : List Hold
    holds = held_caches problem history

    now : held_caches problem (history ++ Claimed worker vertex ∷ []) ≡ holds ++ new_holds worker holds (uses_at problem vertex)
    now = held_caches-push problem history (Claimed worker vertex)

    owners : (by : ℕ) → vertex_out (history ++ Claimed worker vertex ∷ []) by ≡ None → (b : Bool) → (worker == by) ≡ b → is_holder by (holds ++ new_holds worker holds (uses_at problem vertex)) ≡ false
    owners by e true t = (let f : Some vertex ≡ None = rw t at (sym (vertex_out_push history (Claimed worker vertex) by) ∙ e) in cc)
    owners by e false t =
        let f : vertex_out history by ≡ None = rw t at (sym (vertex_out_push history (Claimed worker vertex) by) ∙ e) in
        list_any-append (λ (hold : Hold). hold.holder == by) holds (new_holds worker holds (uses_at problem vertex)) ∙ or_from _ _ (is.owners by f) (holder_takings worker by holds (uses_at problem vertex) t)

    counts : (by u : ℕ) → vertex_out (history ++ Claimed worker vertex ∷ []) by ≡ Some u → (b : Bool) → (worker == by) ≡ b → length (of_holder by (holds ++ new_holds worker holds (uses_at problem vertex))) ≡ length (uses_at problem u)
    counts by u e true t =
        let f : Some vertex ≡ Some u = rw t at (sym (vertex_out_push history (Claimed worker vertex) by) ∙ e) in
        let same : vertex ≡ u = cc in
        ap length (of_holder-takes worker by holds (uses_at problem vertex) (is.owners worker idle)) ∙ rw t (length-new_holds worker holds (uses_at problem vertex) ∙ ap (λ v. length (uses_at problem v)) same)
    counts by u e false t =
        let f : vertex_out history by ≡ Some u = rw t at (sym (vertex_out_push history (Claimed worker vertex) by) ∙ e) in
        ap length (of_holder-takes worker by holds (uses_at problem vertex) (is.owners worker idle)) ∙ rw t (is.counts by u f)

pub AreHeld-end : (problem : Problem) (history : List Happened) (happened : Happened) (worker : ℕ) → AreHeld problem history → ((by : ℕ) → vertex_out_then by (vertex_out history by) happened ≡ cond (worker == by) None (vertex_out history by)) → holds_then (held_caches problem history) (change_of problem happened) ≡ without_holder worker (held_caches problem history) → AreHeld problem (history ++ happened ∷ [])
AreHeld-end problem history happened worker is ends leaves = record {
  owners = λ by e. subst (λ b. is_holder by b ≡ false) (sym now) (owners by e (worker == by) refl);
  counts = λ by u e. subst (λ b. length (of_holder by b) ≡ length (uses_at problem u)) (sym now) (counts by u e (worker == by) refl);
  lawful = subst (λ b. is_lawful b ≡ true) (sym now) (lawful-filter (λ hold. not (hold.holder == worker)) holds is.lawful);
}
  where
    holds : List Hold
    holds = held_caches problem history

    now : held_caches problem (history ++ happened ∷ []) ≡ without_holder worker holds
    now = held_caches-push problem history happened ∙ leaves

    owners : (by : ℕ) → vertex_out (history ++ happened ∷ []) by ≡ None → (b : Bool) → (worker == by) ≡ b → is_holder by (without_holder worker holds) ≡ false
    owners by e true t = rw (← eqb-true worker by t) (holder_gone worker holds)
    owners by e false t =
        let f : vertex_out history by ≡ None = rw t at (sym (ends by) ∙ (sym (vertex_out_push history happened by) ∙ e)) in
        any_filter_none (λ (hold : Hold). hold.holder == by) (λ hold. not (hold.holder == worker)) holds (is.owners by f)

    counts : (by u : ℕ) → vertex_out (history ++ happened ∷ []) by ≡ Some u → (b : Bool) → (worker == by) ≡ b → length (of_holder by (without_holder worker holds)) ≡ length (uses_at problem u)
    counts by u e true t = (let f : None ≡ Some u = rw t at (sym (ends by) ∙ (sym (vertex_out_push history happened by) ∙ e)) in cc)
    counts by u e false t =
        let f : vertex_out history by ≡ Some u = rw t at (sym (ends by) ∙ (sym (vertex_out_push history happened by) ∙ e)) in
        ap length (of_holder-without worker by holds) ∙ rw t (is.counts by u f)
