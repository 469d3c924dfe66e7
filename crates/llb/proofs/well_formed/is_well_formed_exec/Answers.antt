use Rattle.std.proofs.Common.{◌≡◌, ◌&&◌, not, ap, sym, ◌∙◌}
use Rattle.runs.specs.Run.{ids_differ, ids_of}
use Rattle.runs.specs.declared.run.CacheUse.{CacheUse}
use Rattle.llb.specs.declared.op.Bind.{Bind}
use Rattle.plain.specs.Variable.{names_of}
use Rattle.llb.specs.WellFormed.{is_environment}
use Rattle.llb.proofs.WellFormedSteps.{both_fit, four}
use Rattle.llb.proofs.well_formed.is_well_formed_exec.Goals as goal

pub returns : goal.returns
returns c =
    let env : c.in_ok-env_names_differ.env_names_differ ≡ is_environment c.args.exec.now.env =
    c.in_ok-env_names_differ.ensures ∙ ap (λ variables. ids_differ (names_of variables)) c.as_slice.ensures.rows
    ∙ sym (ap (λ b. b && ids_differ (names_of c.args.exec.now.env)) c.as_slice.ensures.names) in
    let mounts = c.binds_fit-mounts_fit.ensures
    ∙ ap (λ binds. both_fit (λ (bind : Bind). bind.target) (λ (cache : CacheUse). cache.target) binds c.as_slice-3.result.now) c.as_slice-2.ensures
    ∙ ap (both_fit (λ (bind : Bind). bind.target) (λ (cache : CacheUse). cache.target) c.args.exec.now.binds) c.as_slice-3.ensures in
    let ids = c.in_ok-caches_differ.ensures ∙ ap (λ caches. ids_differ (ids_of caches)) c.as_slice-4.ensures in
    c.all_hold.ensures ∙ four _ _ _ _ _ _ _ _ (ap not c.is_empty-is_empty.ensures) env mounts ids
