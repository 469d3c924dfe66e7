use Rattle.std.proofs.Common.{◌∙◌, ap, Some, set, subst}
use Rattle.std.specs.FinMap.{get, insert, from_entries}
use Rattle.std.specs.FinMap.Entries.{is_sorted}
use Rattle.plans.specs.Sources.{name_cmp}
use Rattle.plans.specs.PrivateSorted.{falling, StandsAt, GoesAt}
use Rattle.plans.proofs.MapViews.{insert_is, put_falls}
use Rattle.plans.proofs.SortedSteps.{stands_of, goes_of, stands_found, goes_none, put_set, put_new}
use Rattle.plans.proofs.sorted.Sorted.insert.Goals as goal

pub invariant_of-self : goal.invariant_of-self
invariant_of-self g c =
    let rows = c.self.inside.rows.items in
    let stands = subst (λ n. StandsAt n rows c.in-Ok.at) c.as_str.ensures (stands_of c.as_str.result.now c.as_slice.result.now rows c.in-Ok.at c.as_slice.ensures.value c.in-Ok.ensures.stands) in
    ap (is_sorted falling) (put_set c.args.name c.args.value rows _ c.in-Ok.at c.index_mut.result.now c.self.invariant stands c.index_mut.ensures.value (ap (λ v. set rows c.in-Ok.at (c.index_mut.result.now.0, v)) c.replace.ensures.after))
    ∙ put_falls rows c.args.name c.args.value c.self.invariant

pub invariant_of-self-in-Err : goal.invariant_of-self-in-Err
invariant_of-self-in-Err g c =
    let rows = c.self.inside.rows.items in
    let goes = subst (λ n. GoesAt n rows c.in-Err.at) c.as_str.ensures (goes_of c.as_str.result.now c.as_slice.result.now rows c.in-Err.at c.as_slice.ensures.value c.in-Err.ensures.absent) in
    ap (is_sorted falling) (put_new c.args.name c.args.value rows _ c.in-Err.at goes c.in_ok-insert-in-Err.ensures.items) ∙ put_falls rows c.args.name c.args.value c.self.invariant

pub returns-in-Ok-clause-old : goal.returns-in-Ok-clause-old
returns-in-Ok-clause-old g c =
    let rows = c.self.inside.rows.items in
    let stands = subst (λ n. StandsAt n rows c.in-Ok.at) c.as_str.ensures (stands_of c.as_str.result.now c.as_slice.result.now rows c.in-Ok.at c.as_slice.ensures.value c.in-Ok.ensures.stands) in
    ap Some c.replace.ensures.value ∙ stands_found c.args.name rows c.in-Ok.at c.index_mut.result.now c.self.invariant stands c.index_mut.ensures.value ∙ ap (λ m. get m c.args.name) c.self.view_is

pub returns-in-Ok-clause-ok : goal.returns-in-Ok-clause-ok
returns-in-Ok-clause-ok g c =
    let rows = c.self.inside.rows.items in
    let stands = subst (λ n. StandsAt n rows c.in-Ok.at) c.as_str.ensures (stands_of c.as_str.result.now c.as_slice.result.now rows c.in-Ok.at c.as_slice.ensures.value c.in-Ok.ensures.stands) in
    ap (from_entries {R = name_cmp}) (put_set c.args.name c.args.value rows _ c.in-Ok.at c.index_mut.result.now c.self.invariant stands c.index_mut.ensures.value (ap (λ v. set rows c.in-Ok.at (c.index_mut.result.now.0, v)) c.replace.ensures.after))
    ∙ insert_is rows c.args.name c.args.value ∙ ap (λ m. insert m c.args.name c.args.value) c.self.view_is

pub returns-in_ok-insert-in-Err-clause-old : goal.returns-in_ok-insert-in-Err-clause-old
returns-in_ok-insert-in-Err-clause-old g c =
    let rows = c.self.inside.rows.items in
    let goes = subst (λ n. GoesAt n rows c.in-Err.at) c.as_str.ensures (goes_of c.as_str.result.now c.as_slice.result.now rows c.in-Err.at c.as_slice.ensures.value c.in-Err.ensures.absent) in
    goes_none c.args.name rows c.in-Err.at goes ∙ ap (λ m. get m c.args.name) c.self.view_is

pub returns-in_ok-insert-in-Err-clause-ok : goal.returns-in_ok-insert-in-Err-clause-ok
returns-in_ok-insert-in-Err-clause-ok g c =
    let rows = c.self.inside.rows.items in
    let goes = subst (λ n. GoesAt n rows c.in-Err.at) c.as_str.ensures (goes_of c.as_str.result.now c.as_slice.result.now rows c.in-Err.at c.as_slice.ensures.value c.in-Err.ensures.absent) in
    ap (from_entries {R = name_cmp}) (put_new c.args.name c.args.value rows _ c.in-Err.at goes c.in_ok-insert-in-Err.ensures.items)
    ∙ insert_is rows c.args.name c.args.value ∙ ap (λ m. insert m c.args.name c.args.value) c.self.view_is
