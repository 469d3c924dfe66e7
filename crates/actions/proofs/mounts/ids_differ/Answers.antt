use Rattle.std.proofs.Common.{ℕ, List, Bor, sym, ap, ◌∙◌}
use Rattle.std.specs.List.{list_any}
use Rattle.std.specs.Ordering.{is_eq, nat_cmp}
use Rattle.std.specs.Cmp.Lexicographic.{slice_cmp}
use Rattle.std.proofs.lemmas.Bool.{not-true}
use Rattle.llb.proofs.WellFormedSteps.{all_new, name_miss}
use Rattle.actions.proofs.mounts.ids_differ.Goals as goal

pub loop-id-init : goal.loop-id-init
loop-id-init c = all_new _ _ (λ q. ap (list_any (λ key. is_eq (slice_cmp nat_cmp q key.now))) c.new-seen.ensures.empty)

pub loop-id-preserved : goal.loop-id-preserved
loop-id-preserved c =
    name_miss (λ (id : Bor (List ℕ)). id.now) c.args.ids.now c.loop-id.id-index c.id-item.result _ _ c.loop-id.invariant c.loop-id-test.true c.id-item.is
    (not-true _ (sym c.in_ok-insert.ensures.added ∙ c.if-not-branch.false))
    (λ q. c.in_ok-insert.ensures.updates.0 (record { ref_ptr = (0, 0); now = q }))
