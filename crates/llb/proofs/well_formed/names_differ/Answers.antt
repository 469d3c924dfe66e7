use Rattle.std.proofs.Common.{true, false, cond, ap, sym, subst, ◌≡◌, ◌∙◌}
use Rattle.std.specs.List.{list_any}
use Rattle.std.specs.Ordering.{is_eq, nat_cmp}
use Rattle.std.specs.Cmp.Lexicographic.{slice_cmp}
use Rattle.std.proofs.lemmas.Bool.{not-true, not-false}
use Rattle.llb.proofs.WellFormedSteps.{all_new, name_hit, name_miss, names_end}
use Rattle.llb.proofs.well_formed.names_differ.Goals as goal

pub loop-item-init : goal.loop-item-init
loop-item-init g c = all_new _ _ (λ q. ap (list_any (λ key. is_eq (slice_cmp nat_cmp q key.now))) c.new-seen.ensures.empty)

pub returns-then-not-branch : goal.returns-then-not-branch
returns-then-not-branch g c =
    name_hit g.T.Named.name_of c.args.items.now c.loop-item.item-index c.item-item.result _ c.loop-item.invariant c.loop-item-test.true c.item-item.is
    (subst (λ name. list_any (λ key. is_eq (slice_cmp nat_cmp name key.now)) c.loop-item.seen.keys ≡ true) c.name.ensures
    (not-false _ (sym c.in_ok-insert.ensures.added ∙ c.if-not-branch.true)))

pub loop-item-preserved : goal.loop-item-preserved
loop-item-preserved g c =
    name_miss g.T.Named.name_of c.args.items.now c.loop-item.item-index c.item-item.result _ _ c.loop-item.invariant c.loop-item-test.true c.item-item.is
    (subst (λ name. list_any (λ key. is_eq (slice_cmp nat_cmp name key.now)) c.loop-item.seen.keys ≡ false) c.name.ensures
    (not-true _ (sym c.in_ok-insert.ensures.added ∙ c.if-not-branch.false)))
    (λ q. subst (λ name. list_any (λ key. is_eq (slice_cmp nat_cmp q key.now)) c.insert.new.self.keys ≡ cond (is_eq (slice_cmp nat_cmp name q)) true (list_any (λ key. is_eq (slice_cmp nat_cmp q key.now)) c.loop-item.seen.keys)) c.name.ensures
    (c.in_ok-insert.ensures.updates.0 (record { ref_ptr = (0, 0); now = q })))

pub returns : goal.returns
returns g c = names_end g.T.Named.name_of c.args.items.now c.loop-item.item-index _ c.loop-item.invariant c.loop-item-test.false
