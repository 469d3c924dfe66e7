-- What is known of mounts whose paths were read as far as they can be.
use Rattle.std.specs.Prelude.{◌≡◌, ◌||◌, ◌⊎◌, ℕ, Bool, true, false, not, cond, List, [], ◌∷◌, ◌++◌, map, filter, Option, Some, None, option_map, refl, if◌then◌else◌}
use Rattle.std.specs.List.{list_any, filter_map, cons_option}
use Rattle.std.proofs.Common.{sym, ap, ap₂, ◌∙◌, inl, inr}
use Rattle.std.proofs.lemmas.Bool.{true≢false, not-true, not-false}
use Rattle.std.proofs.lemmas.Option.{none-some}
use Rattle.std.proofs.lemmas.List.Elements.{filter-append}
use Rattle.plain.specs.declared.sharing.Sharing.{Sharing}
use Rattle.runs.specs.declared.run.CacheUse.{CacheUse}
use Rattle.llb.specs.declared.op.Bind.{Bind}
use Rattle.options.specs.Lists.{all_some}
use Rattle.options.specs.declared.mount.Mount.{Mount}
use Rattle.options.specs.declared.mount.MountKind.{MountKind}
use Rattle.options.specs.declared.mount.MountKind.TheVariants.{Bind as BindOf, Cache as CacheOf}
use Rattle.actions.specs.Texts.{is_within}
use Rattle.actions.specs.Run.{target_in, folder_of, bind_at, binds_of, cache_at, caches_of, id_at, known_id, known_ids, targets_in, has_far_folder, is_unreadable}
use Rattle.actions.specs.PrivateTexts.{within}
use Rattle.actions.specs.PrivateMounts.{read_bind, read_binds, read_cache_at, read_caches, read_targets, read_ids, bind_from, whole_bind, cache_from, whole_cache}
use Rattle.actions.specs.declared.mounts.ReadBind.{ReadBind}
use Rattle.actions.specs.declared.mounts.ReadCache.{ReadCache}
use Rattle.actions.proofs.LimitFacts.{neither}

-- the targets that were read are those within the limits

kept_by : (b : Bool) (path : List (List ℕ)) (xs ys : List (List (List ℕ))) → xs ≡ ys → cons_option (if b then Some path else None) xs ≡ cond b (path ∷ ys) ys
kept_by true path xs ys e = ap (λ (zs : List (List (List ℕ))). path ∷ zs) e
kept_by false path xs ys e = e

bind_targets : (binds : List Bind) → filter_map (λ (bind : ReadBind). bind.target) (map read_bind binds) ≡ filter is_within (map (λ (bind : Bind). bind.target) binds)
bind_targets [] = refl
bind_targets (bind ∷ binds) = kept_by (is_within bind.target) bind.target _ _ (bind_targets binds)

cache_target : (target : List (List ℕ)) (kind : MountKind) (read : List ReadCache) (caches : List CacheUse)
    → filter_map (λ (cache : ReadCache). cache.target) read ≡ filter is_within (map (λ (cache : CacheUse). cache.target) caches)
    → filter_map (λ (cache : ReadCache). cache.target) (cons_option (read_cache_at target kind) read) ≡ filter is_within (map (λ (cache : CacheUse). cache.target) (cons_option (cache_at target kind) caches))
cache_target target (BindOf source from is_writable) read caches e = e
cache_target target (CacheOf id sharing) read caches e = kept_by (is_within target) target _ _ e

cache_targets : (dir : List (List ℕ)) (mounts : List Mount) → filter_map (λ (cache : ReadCache). cache.target) (read_caches dir mounts) ≡ filter is_within (map (λ (cache : CacheUse). cache.target) (caches_of dir mounts))
cache_targets dir [] = refl
cache_targets dir (mount ∷ mounts) = cache_target (target_in dir mount) mount.kind (read_caches dir mounts) (caches_of dir mounts) (cache_targets dir mounts)

pub targets_are : (dir : List (List ℕ)) (mounts : List Mount) → read_targets (read_binds dir mounts) (read_caches dir mounts) ≡ filter is_within (targets_in dir mounts)
targets_are dir mounts =
    ap₂ (λ (xs ys : List (List (List ℕ))). xs ++ ys) (bind_targets (binds_of dir mounts)) (cache_targets dir mounts)
    ∙ sym (filter-append is_within (map (λ (bind : Bind). bind.target) (binds_of dir mounts)) (map (λ (cache : CacheUse). cache.target) (caches_of dir mounts)))

-- the ids are those that are known

id_more : (target : List (List ℕ)) (kind : MountKind) (read : List ReadCache) (ids : List (List ℕ)) → read_ids read ≡ ids → read_ids (cons_option (read_cache_at target kind) read) ≡ cons_option (known_id target kind) ids
id_more target (BindOf source from is_writable) read ids e = e
id_more target (CacheOf id sharing) read ids e = ap (cons_option (known_id target (CacheOf id sharing))) e

pub ids_are : (dir : List (List ℕ)) (mounts : List Mount) → read_ids (read_caches dir mounts) ≡ known_ids dir mounts
ids_are dir [] = refl
ids_are dir (mount ∷ mounts) = id_more (target_in dir mount) mount.kind (read_caches dir mounts) (known_ids dir mounts) (ids_are dir mounts)

-- where all paths can be read, all binds and caches are whole

within_yes : (path : List (List ℕ)) → is_within path ≡ true → within path ≡ Some path
within_yes path h = rw h refl

within_no : (path : List (List ℕ)) → is_within path ≡ false → within path ≡ None
within_no path h = rw h refl

some_more : {X : Type 0} (x : X) (o : Option X) (os : List (Option X)) (xs : List X) → o ≡ Some x → all_some os ≡ Some xs → all_some (o ∷ os) ≡ Some (x ∷ xs)
some_more x o os xs e h = rw e (ap (option_map (λ ys. x ∷ ys)) h)

bind_some : (rw_flag : Bool) (source target : List (List ℕ)) (s t : Option (List (List ℕ))) → s ≡ Some source → t ≡ Some target → bind_from rw_flag s t ≡ Some (record { rw = rw_flag; source = source; target = target })
bind_some rw_flag source target s t e f = rw (e, f) refl

cache_some : (id : List ℕ) (sharing : Sharing) (target : List (List ℕ)) (i : Option (List ℕ)) (t : Option (List (List ℕ))) → i ≡ Some id → t ≡ Some target → cache_from i sharing t ≡ Some (record { id = id; sharing = sharing; target = target })
cache_some id sharing target i t e f = rw (e, f) refl

id_known : (target : List (List ℕ)) (id : Option (List ℕ)) (sharing : Sharing) → is_within target ≡ true → known_id target (CacheOf id sharing) ≡ Some (id_at target id)
id_known target None sharing h = rw h refl
id_known target (Some id) sharing h = refl

-- binds and caches all of whose paths were read
pub record AreWhole (binds : List Bind) (read : List ReadCache) (caches : List CacheUse) : Type 0 where
  pub all_binds : all_some (map whole_bind (map read_bind binds)) ≡ Some binds
  pub all_caches : all_some (map whole_cache read) ≡ Some caches

whole_more : (target : List (List ℕ)) (kind : MountKind) (binds : List Bind) (read : List ReadCache) (caches : List CacheUse) → is_within target ≡ true → has_far_folder kind ≡ false
    → AreWhole binds read caches → AreWhole (cons_option (bind_at target kind) binds) (cons_option (read_cache_at target kind) read) (cons_option (cache_at target kind) caches)
whole_more target (BindOf source from is_writable) binds read caches t f h =
    let s : within (folder_of source) ≡ Some (folder_of source) = within_yes (folder_of source) (not-false (is_within (folder_of source)) f) in
    record {
      all_binds = some_more _ (bind_from is_writable (within (folder_of source)) (within target)) (map whole_bind (map read_bind binds)) binds (bind_some is_writable (folder_of source) target _ _ s (within_yes target t)) h.all_binds;
      all_caches = h.all_caches;
    }
whole_more target (CacheOf id sharing) binds read caches t f h =
    record {
      all_binds = h.all_binds;
      all_caches = some_more _ (cache_from (known_id target (CacheOf id sharing)) sharing (within target)) (map whole_cache read) caches (cache_some (id_at target id) sharing target _ _ (id_known target id sharing t) (within_yes target t)) h.all_caches;
    }

pub whole_where : (dir : List (List ℕ)) (mounts : List Mount) → list_any (is_unreadable dir) mounts ≡ false → AreWhole (binds_of dir mounts) (read_caches dir mounts) (caches_of dir mounts)
whole_where dir [] e = record { all_binds = refl; all_caches = refl }
whole_where dir (mount ∷ mounts) e =
    let both = neither (is_unreadable dir mount) (list_any (is_unreadable dir) mounts) e in
    let paths = neither (not (is_within (target_in dir mount))) (has_far_folder mount.kind) both.0 in
    whole_more (target_in dir mount) mount.kind (binds_of dir mounts) (read_caches dir mounts) (caches_of dir mounts) (not-false (is_within (target_in dir mount)) paths.0) paths.1 (whole_where dir mounts both.1)

-- where a path can't be read, the binds or the caches aren't all whole

abbrev NotWhole : List Bind → List ReadCache → Type 0
NotWhole binds read = (all_some (map whole_bind (map read_bind binds)) ≡ None) ⊎ (all_some (map whole_cache read) ≡ None)

none_more : {X : Type 0} (o : Option X) (os : List (Option X)) → all_some os ≡ None → all_some (o ∷ os) ≡ None
none_more None os e = refl
none_more (Some x) os e = ap (option_map (λ ys. x ∷ ys)) e

first_none : {X : Type 0} (o : Option X) (os : List (Option X)) → o ≡ None → all_some (o ∷ os) ≡ None
first_none None os e = refl
first_none (Some x) os e = absurd (none-some x (sym e))

bind_none : (rw_flag : Bool) (s t : Option (List (List ℕ))) → t ≡ None → bind_from rw_flag s t ≡ None
bind_none rw_flag None t e = refl
bind_none rw_flag (Some source) None e = refl
bind_none rw_flag (Some source) (Some target) e = absurd (none-some target (sym e))

source_none : (rw_flag : Bool) (s t : Option (List (List ℕ))) → s ≡ None → bind_from rw_flag s t ≡ None
source_none rw_flag None t e = refl
source_none rw_flag (Some source) t e = absurd (none-some source (sym e))

cache_none : (i : Option (List ℕ)) (sharing : Sharing) (t : Option (List (List ℕ))) → t ≡ None → cache_from i sharing t ≡ None
cache_none None sharing t e = refl
cache_none (Some id) sharing None e = refl
cache_none (Some id) sharing (Some target) e = absurd (none-some target (sym e))

second_of : (a b : Bool) → a ≡ true → (not a || b) ≡ true → b ≡ true
second_of true b e h = h
second_of false b e h = absurd (true≢false (sym e))

far_by : (target : List (List ℕ)) (kind : MountKind) (binds : List Bind) (read : List ReadCache) (b : Bool) → is_within target ≡ b → (not (is_within target) || has_far_folder kind) ≡ true
    → NotWhole (cons_option (bind_at target kind) binds) (cons_option (read_cache_at target kind) read)
far_by target (BindOf source from is_writable) binds read true e h =
    let far : within (folder_of source) ≡ None = within_no (folder_of source) (not-true (is_within (folder_of source)) (second_of (is_within target) (not (is_within (folder_of source))) e h)) in
    inl (first_none (bind_from is_writable (within (folder_of source)) (within target)) (map whole_bind (map read_bind binds)) (source_none is_writable _ _ far))
far_by target (BindOf source from is_writable) binds read false e h =
    inl (first_none (bind_from is_writable (within (folder_of source)) (within target)) (map whole_bind (map read_bind binds)) (bind_none is_writable _ _ (within_no target e)))
far_by target (CacheOf id sharing) binds read true e h = absurd (true≢false (sym (second_of (is_within target) false e h)))
far_by target (CacheOf id sharing) binds read false e h =
    inr (first_none (cache_from (known_id target (CacheOf id sharing)) sharing (within target)) (map whole_cache read) (cache_none _ sharing _ (within_no target e)))

far_more : (target : List (List ℕ)) (kind : MountKind) (binds : List Bind) (read : List ReadCache) → NotWhole binds read → NotWhole (cons_option (bind_at target kind) binds) (cons_option (read_cache_at target kind) read)
far_more target (BindOf source from is_writable) binds read (inl e) = inl (none_more (bind_from is_writable (within (folder_of source)) (within target)) (map whole_bind (map read_bind binds)) e)
far_more target (BindOf source from is_writable) binds read (inr e) = inr e
far_more target (CacheOf id sharing) binds read (inl e) = inl e
far_more target (CacheOf id sharing) binds read (inr e) = inr (none_more (cache_from (known_id target (CacheOf id sharing)) sharing (within target)) (map whole_cache read) e)

far_step : (target : List (List ℕ)) (kind : MountKind) (binds : List Bind) (read : List ReadCache) (far more : Bool) → (not (is_within target) || has_far_folder kind) ≡ far → (far || more) ≡ true → (more ≡ true → NotWhole binds read)
    → NotWhole (cons_option (bind_at target kind) binds) (cons_option (read_cache_at target kind) read)
far_step target kind binds read true more e h ih = far_by target kind binds read (is_within target) refl e
far_step target kind binds read false more e h ih = far_more target kind binds read (ih h)

pub far_where : (dir : List (List ℕ)) (mounts : List Mount) → list_any (is_unreadable dir) mounts ≡ true → NotWhole (binds_of dir mounts) (read_caches dir mounts)
far_where dir [] e = absurd (true≢false (sym e))
far_where dir (mount ∷ mounts) e =
    far_step (target_in dir mount) mount.kind (binds_of dir mounts) (read_caches dir mounts) (is_unreadable dir mount) (list_any (is_unreadable dir) mounts) refl e (far_where dir mounts)

-- what it says that they are whole, and that they aren't

some_is_none : {X : Type 0} (x : X) (o : Option X) → o ≡ Some x → o ≡ None → ⊥
some_is_none x o e f = none-some x (sym f ∙ e)

near_by : (dir : List (List ℕ)) (mounts : List Mount) (b : Bool) (found : List Bind) (others : List CacheUse) → list_any (is_unreadable dir) mounts ≡ b
    → all_some (map whole_bind (read_binds dir mounts)) ≡ Some found → all_some (map whole_cache (read_caches dir mounts)) ≡ Some others → b ≡ false
near_by dir mounts true found others e f g = apart (far_where dir mounts e)
  where
    apart : NotWhole (binds_of dir mounts) (read_caches dir mounts) → true ≡ false
    apart (inl n) = absurd (some_is_none found _ f n)
    apart (inr n) = absurd (some_is_none others _ g n)
near_by dir mounts false found others e f g = refl

pub near_where : (dir : List (List ℕ)) (mounts : List Mount) (found : List Bind) (others : List CacheUse)
    → all_some (map whole_bind (read_binds dir mounts)) ≡ Some found → all_some (map whole_cache (read_caches dir mounts)) ≡ Some others → list_any (is_unreadable dir) mounts ≡ false
near_where dir mounts found others f g = near_by dir mounts (list_any (is_unreadable dir) mounts) found others refl f g

unread_by : (dir : List (List ℕ)) (mounts : List Mount) (b : Bool) → list_any (is_unreadable dir) mounts ≡ b → NotWhole (binds_of dir mounts) (read_caches dir mounts) → b ≡ true
unread_by dir mounts true e n = refl
unread_by dir mounts false e (inl n) = absurd (some_is_none (binds_of dir mounts) _ (whole_where dir mounts e).all_binds n)
unread_by dir mounts false e (inr n) = absurd (some_is_none (caches_of dir mounts) _ (whole_where dir mounts e).all_caches n)

pub unread_binds : (dir : List (List ℕ)) (mounts : List Mount) → all_some (map whole_bind (read_binds dir mounts)) ≡ None → list_any (is_unreadable dir) mounts ≡ true
unread_binds dir mounts n = unread_by dir mounts (list_any (is_unreadable dir) mounts) refl (inl n)

pub unread_caches : (dir : List (List ℕ)) (mounts : List Mount) → all_some (map whole_cache (read_caches dir mounts)) ≡ None → list_any (is_unreadable dir) mounts ≡ true
unread_caches dir mounts n = unread_by dir mounts (list_any (is_unreadable dir) mounts) refl (inr n)
