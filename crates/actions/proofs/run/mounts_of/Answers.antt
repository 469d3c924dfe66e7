use Rattle.std.proofs.Common.{◌∙◌, List, Some, sym, ap₂}
use Rattle.llb.specs.declared.op.Bind.{Bind}
use Rattle.runs.specs.declared.run.CacheUse.{CacheUse}
use Rattle.actions.proofs.RunFacts.{clash_reported, bind_reported, cache_reported, all_read, AreRead}
use Rattle.actions.proofs.run.mounts_of.Goals as goal

pub returns-then-not-branch : goal.returns-then-not-branch
returns-then-not-branch c =
    clash_reported c.args.dir.now c.args.mounts c.as_slice.result.now c.as_slice-2.result.now c.in_ok-mounts_stand_together.field-0
    (c.as_slice.ensures ∙ c.in_ok-binds.ensures.binds) (c.as_slice-2.ensures ∙ c.in_ok-binds.ensures.caches) c.in_ok-mounts_stand_together.ensures c.if-not-branch.true

pub returns-in_default : goal.returns-in_default
returns-in_default c =
    bind_reported c.args.dir.now c.args.mounts c.as_slice.result.now c.in_ok-binds.binds c.as_slice-2.result.now c.in_ok-mounts_stand_together.field-0
    (c.as_slice.ensures ∙ c.in_ok-binds.ensures.binds) (c.as_slice-2.ensures ∙ c.in_ok-binds.ensures.caches) c.in_ok-mounts_stand_together.ensures c.if-not-branch.false
    c.in_ok-binds.ensures.binds (sym c.in_default.is ∙ c.in_ok-binds-2.ensures)

pub returns-in_default-2 : goal.returns-in_default-2
returns-in_default-2 c =
    cache_reported c.args.dir.now c.args.mounts c.as_slice.result.now c.as_slice-2.result.now c.in_ok-binds.caches c.in_ok-mounts_stand_together.field-0
    (c.as_slice.ensures ∙ c.in_ok-binds.ensures.binds) (c.as_slice-2.ensures ∙ c.in_ok-binds.ensures.caches) c.in_ok-mounts_stand_together.ensures c.if-not-branch.false
    c.in_ok-binds.ensures.caches (sym c.in_default-2.is ∙ c.in_ok-caches.ensures)

pub returns : goal.returns
returns c =
    let read : AreRead c.args.dir.now c.args.mounts c.in-Some.binds c.in-Some-2.caches =
    all_read c.args.dir.now c.args.mounts c.as_slice.result.now c.in_ok-binds.binds c.as_slice-2.result.now c.in_ok-binds.caches c.in_ok-mounts_stand_together.field-0
    c.in-Some.binds c.in-Some-2.caches
    (c.as_slice.ensures ∙ c.in_ok-binds.ensures.binds) (c.as_slice-2.ensures ∙ c.in_ok-binds.ensures.caches) c.in_ok-mounts_stand_together.ensures c.if-not-branch.false
    c.in_ok-binds.ensures.binds c.in_ok-binds.ensures.caches (sym c.in-Some.is ∙ c.in_ok-binds-2.ensures) (sym c.in-Some-2.is ∙ c.in_ok-caches.ensures) in
    (ap₂ (λ (x : List Bind) (y : List CacheUse). Some (x, y)) (sym read.same_binds) (sym read.same_caches), read.none_due)
