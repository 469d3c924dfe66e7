-- What is reported of a RUN's mounts, by what was read of them.
use Rattle.std.specs.Prelude.{◌≡◌, ◌||◌, ◌&&◌, ℕ, Bool, true, false, not, List, map, Option, Some, None, refl}
use Rattle.std.specs.List.{list_any}
use Rattle.std.proofs.Common.{sym, ap, ap₂, ◌∙◌}
use Rattle.plain.specs.declared.refusal.Code.TheVariants.{R17, R18}
use Rattle.instructions.specs.Least.{least}
use Rattle.instructions.specs.declared.instruction.Command.{Command}
use Rattle.llb.specs.declared.op.Bind.{Bind}
use Rattle.llb.specs.declared.op.Exec.{Exec}
use Rattle.rows.specs.declared.row.Action.TheVariants.{Run}
use Rattle.rows.specs.declared.row.Origin.{Origin}
use Rattle.scopes.specs.declared.declaration.Declaration.{Declaration}
use Rattle.runs.specs.Run.{mounts_fit, ids_differ}
use Rattle.runs.specs.declared.run.CacheUse.{CacheUse}
use Rattle.options.specs.Lists.{all_some}
use Rattle.options.specs.declared.mount.Mount.{Mount}
use Rattle.std.proofs.lemmas.Option.{same_Some}
use Rattle.actions.specs.Run.{binds_of, caches_of, is_unreadable, exec_of, run_action, run_due}
use Rattle.actions.specs.PrivateMounts.{read_binds, read_caches, read_targets, read_ids, whole_bind, whole_cache}
use Rattle.actions.specs.declared.mounts.ReadBind.{ReadBind}
use Rattle.actions.specs.declared.mounts.ReadCache.{ReadCache}
use Rattle.actions.proofs.MountFacts.{targets_are, ids_are, AreWhole, whole_where, near_where, unread_binds, unread_caches}

not_both : (a b : Bool) → not (a && b) ≡ (not a || not b)
not_both true b = refl
not_both false b = refl

-- whether the mounts that were read stand together says whether R17 is due
due_17 : (dir : List (List ℕ)) (mounts : List Mount) (binds : List ReadBind) (caches : List ReadCache) (stand : Bool)
    → binds ≡ read_binds dir mounts → caches ≡ read_caches dir mounts → stand ≡ (mounts_fit (read_targets binds caches) && ids_differ (read_ids caches)) → not stand ≡ run_due dir mounts R17
due_17 dir mounts binds caches stand b c s =
    ap not (s ∙ ap₂ (λ (x : List ReadBind) (y : List ReadCache). mounts_fit (read_targets x y) && ids_differ (read_ids y)) b c)
    ∙ not_both (mounts_fit (read_targets (read_binds dir mounts) (read_caches dir mounts))) (ids_differ (read_ids (read_caches dir mounts)))
    ∙ ap₂ (λ (x : List (List (List ℕ))) (y : List (List ℕ)). not (mounts_fit x) || not (ids_differ y)) (targets_are dir mounts) (ids_are dir mounts)

reported_17 : (dir : List (List ℕ)) (mounts : List Mount) → run_due dir mounts R17 ≡ true → least (run_due dir mounts) ≡ Some R17
reported_17 dir mounts e = rw e refl

reported_18 : (dir : List (List ℕ)) (mounts : List Mount) → run_due dir mounts R17 ≡ false → run_due dir mounts R18 ≡ true → least (run_due dir mounts) ≡ Some R18
reported_18 dir mounts e f = rw (e, f) refl

reported_none : (dir : List (List ℕ)) (mounts : List Mount) → run_due dir mounts R17 ≡ false → run_due dir mounts R18 ≡ false → least (run_due dir mounts) ≡ None
reported_none dir mounts e f = rw (e, f) refl

-- mounts that don't stand together
pub clash_reported : (dir : List (List ℕ)) (mounts : List Mount) (binds : List ReadBind) (caches : List ReadCache) (stand : Bool)
    → binds ≡ read_binds dir mounts → caches ≡ read_caches dir mounts → stand ≡ (mounts_fit (read_targets binds caches) && ids_differ (read_ids caches))
    → stand ≡ false → least (run_due dir mounts) ≡ Some R17
clash_reported dir mounts binds caches stand b c s e = reported_17 dir mounts (sym (due_17 dir mounts binds caches stand b c s) ∙ ap not e)

-- mounts that stand together, of which a bind has a path that can't be read
pub bind_reported : (dir : List (List ℕ)) (mounts : List Mount) (binds others : List ReadBind) (caches : List ReadCache) (stand : Bool)
    → binds ≡ read_binds dir mounts → caches ≡ read_caches dir mounts → stand ≡ (mounts_fit (read_targets binds caches) && ids_differ (read_ids caches))
    → stand ≡ true → others ≡ read_binds dir mounts → None ≡ all_some (map whole_bind others) → least (run_due dir mounts) ≡ Some R18
bind_reported dir mounts binds others caches stand b c s e o none =
    reported_18 dir mounts (sym (due_17 dir mounts binds caches stand b c s) ∙ ap not e) (unread_binds dir mounts (ap (λ (x : List ReadBind). all_some (map whole_bind x)) (sym o) ∙ sym none))

-- the same of a cache
pub cache_reported : (dir : List (List ℕ)) (mounts : List Mount) (binds : List ReadBind) (caches others : List ReadCache) (stand : Bool)
    → binds ≡ read_binds dir mounts → caches ≡ read_caches dir mounts → stand ≡ (mounts_fit (read_targets binds caches) && ids_differ (read_ids caches))
    → stand ≡ true → others ≡ read_caches dir mounts → None ≡ all_some (map whole_cache others) → least (run_due dir mounts) ≡ Some R18
cache_reported dir mounts binds caches others stand b c s e o none =
    reported_18 dir mounts (sym (due_17 dir mounts binds caches stand b c s) ∙ ap not e) (unread_caches dir mounts (ap (λ (x : List ReadCache). all_some (map whole_cache x)) (sym o) ∙ sym none))

-- mounts for which no code is due
pub record AreRead (dir : List (List ℕ)) (mounts : List Mount) (found : List Bind) (others : List CacheUse) : Type 0 where
  pub same_binds : found ≡ binds_of dir mounts
  pub same_caches : others ≡ caches_of dir mounts
  pub none_due : least (run_due dir mounts) ≡ None

pub all_read : (dir : List (List ℕ)) (mounts : List Mount) (binds more : List ReadBind) (caches some : List ReadCache) (stand : Bool) (found : List Bind) (others : List CacheUse)
    → binds ≡ read_binds dir mounts → caches ≡ read_caches dir mounts → stand ≡ (mounts_fit (read_targets binds caches) && ids_differ (read_ids caches))
    → stand ≡ true → more ≡ read_binds dir mounts → some ≡ read_caches dir mounts → Some found ≡ all_some (map whole_bind more) → Some others ≡ all_some (map whole_cache some)
    → AreRead dir mounts found others
all_read dir mounts binds more caches some stand found others b c s e m o f g =
    let f_read : all_some (map whole_bind (read_binds dir mounts)) ≡ Some found = ap (λ (x : List ReadBind). all_some (map whole_bind x)) (sym m) ∙ sym f in
    let g_read : all_some (map whole_cache (read_caches dir mounts)) ≡ Some others = ap (λ (x : List ReadCache). all_some (map whole_cache x)) (sym o) ∙ sym g in
    let near : list_any (is_unreadable dir) mounts ≡ false = near_where dir mounts found others f_read g_read in
    let whole : AreWhole (binds_of dir mounts) (read_caches dir mounts) (caches_of dir mounts) = whole_where dir mounts near in
    record {
      same_binds = same_Some found (binds_of dir mounts) (sym f_read ∙ whole.all_binds);
      same_caches = same_Some others (caches_of dir mounts) (sym g_read ∙ whole.all_caches);
      none_due = reported_none dir mounts (sym (due_17 dir mounts binds caches stand b c s) ∙ ap not e) near;
    }

-- the action that the mounts give
pub run_is : (scope : List Declaration) (dir : List (List ℕ)) (user : List ℕ) (shell : List (List ℕ)) (mounts : List Mount) (command : Command) (origins : List Origin) (found : List Bind) (others : List CacheUse) (exec : Exec)
    → ◌≡◌ {A = Option (List Bind × List CacheUse)} (Some (binds_of dir mounts, caches_of dir mounts)) (Some (found, others)) → exec ≡ exec_of scope dir user shell found others command → Some (run_action scope dir user shell mounts command origins) ≡ Some (Run exec origins)
run_is scope dir user shell mounts command origins found others exec read e =
    let due : List Bind × List CacheUse = (binds_of dir mounts, caches_of dir mounts) in
    let here : List Bind × List CacheUse = (found, others) in
    let same : due ≡ here = same_Some due here read in
    ap (λ (x : Exec). Some (Run x origins)) (sym (e ∙ ap (λ (x : List Bind × List CacheUse). exec_of scope dir user shell x.0 x.1 command) (sym same)))
