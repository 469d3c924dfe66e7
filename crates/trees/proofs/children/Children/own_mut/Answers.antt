use Rattle.std.proofs.Common.{sym, ap, refl, ◌∙◌, IsSome, Option, Some, cond, subst, true≢false}
use Rattle.std.specs.Map.{lookup}
use Rattle.std.specs.BTreeMap.{is_at}
use Rattle.std.specs.FinMap.{find}
use Rattle.paths.specs.Order.{name_cmp}
use Rattle.std.specs.Map.{keys_of}
use Rattle.trees.specs.PrivateNode.{NodeValue, flat}
use Rattle.trees.proofs.NodeLaws.{lookup-find}
use Rattle.trees.proofs.PartSteps.{none-found, place-of, item-same, item-same_parts, item-keys, item-found, item-changed, found-changed}
use Rattle.std.specs.Prelude.{is_ok}
use Rattle.std.specs.Arc.{arc_value}
use Rattle.trees.proofs.NodeSteps.{at-err}
use Rattle.trees.proofs.NameSteps.{same-names}
use Rattle.trees.proofs.children.Children.own_mut.Goals as goal

pub returns-in_default : goal.returns-in_default
returns-in_default c = (
  (refl, λ w e. absurd (true≢false (sym e)), c.self.view_is),
  record { lends = tt; kid = tt; absent = λ _ _. none-found c.args.name.now c.as_slice.result.now c.self.inside.parts.items c.args.self.now c.place-at.result c.self.view_is c.place-at.ensures c.as_slice.ensures.value c.in_default.ensures.item.3 },
)

pub invariant_of-self-in-Err : goal.invariant_of-self-in-Err
invariant_of-self-in-Err c =
    item-same_parts c.self.inside.parts.items c.place-at.result c.in-Some.part.now c.make_mut.follows.lender-at-none c.in-Some.ensures.item.3.0 c.in-Some.ensures.item.1 c.self.invariant
    (same-names (arc_value c.in-Some.part.now) (arc_value c.make_mut.follows.lender-at-none) (at-err c.make_mut.result c.in-Err.field-0 c.in-Err.is c.make_mut.follows.holds-at-none))

pub returns-in-Err : goal.returns-in-Err
returns-in-Err c =
    let same = same-names (arc_value c.in-Some.part.now) (arc_value c.make_mut.follows.lender-at-none) (at-err c.make_mut.result c.in-Err.field-0 c.in-Err.is c.make_mut.follows.holds-at-none) in (
      (refl, λ w e. absurd (true≢false (sym e)), ap flat (item-same c.self.inside.parts.items c.place-at.result c.in-Some.part.now c.make_mut.follows.lender-at-none c.in-Some.ensures.item.3.0 c.in-Some.ensures.item.1 same) ∙ c.self.view_is),
      record { lends = tt; kid = tt; absent = λ why e. cc },
    )

pub invariant_of-self-lent : goal.invariant_of-self-lent
invariant_of-self-lent c = λ w.
    let names = c.get_mut-2.follows.lender w in
    let same = ap keys_of (c.make_mut.follows.holds names (ap is_ok c.in-Ok.is)) ∙ (c.get_mut-2.follows.holds w).names ∙ ap keys_of (same-names (arc_value c.in-Some.part.now) c.in-Ok.names.now c.in-Ok.ensures.value) in
    item-keys c.self.inside.parts.items c.place-at.result c.in-Some.part.now (c.make_mut.follows.lender names) c.in-Some.ensures.item.3.0 c.in-Some.ensures.item.1 c.self.invariant same

pub invariant_of-self-in-None : goal.invariant_of-self-in-None
invariant_of-self-in-None c =
    item-same_parts c.self.inside.parts.items c.place-at.result c.in-Some.part.now (c.make_mut.follows.lender c.get_mut-2.follows.lender-at-none) c.in-Some.ensures.item.3.0 c.in-Some.ensures.item.1 c.self.invariant
    (c.make_mut.follows.holds c.get_mut-2.follows.lender-at-none (ap is_ok c.in-Ok.is) ∙ c.get_mut-2.follows.holds-at-none ∙ same-names (arc_value c.in-Some.part.now) c.in-Ok.names.now c.in-Ok.ensures.value)

pub returns-in-Some-get_mut : goal.returns-in-Some-get_mut
returns-in-Some-get_mut c =
    let place = place-of c.args.name.now c.as_slice.result.now c.self.inside.parts.items c.place-at.result c.place-at.ensures c.as_slice.ensures.value in
    let map = same-names (arc_value c.in-Some.part.now) c.in-Ok.names.now c.in-Ok.ensures.value in
    let there = subst (λ (o : Option NodeValue). IsSome o) c.in-Some-get_mut.ensures.value refl in (
      (
        refl,
        λ w _.
            let names = c.get_mut-2.follows.lender w in
            item-changed c.self.inside.parts.items c.place-at.result c.in-Some.part.now (c.make_mut.follows.lender names) c.in-Some.ensures.item.3.0 c.in-Some.ensures.item.1 c.args.name.now place c.args.self.now c.self.view_is (Some w)
            (λ d. ap (find name_cmp d) (c.make_mut.follows.holds names (ap is_ok c.in-Ok.is)) ∙ found-changed c.in-Some.part.now.value names c.args.name.now (Some w) (λ q. (c.get_mut-2.follows.holds w).at there q ∙ ap (λ l. cond (is_at (name_cmp c.args.name.now) q) (Some w) (lookup (is_at (name_cmp q)) l)) map) d),
        tt,
      ),
      record { lends = tt; kid = item-found c.self.inside.parts.items c.place-at.result c.in-Some.part.now c.in-Some.part.now c.in-Some.ensures.item.3.0 c.in-Some.ensures.item.1 c.args.name.now place c.args.self.now c.self.view_is ∙ ap (find name_cmp c.args.name.now) (sym map) ∙ sym (lookup-find c.args.name.now c.in-Ok.names.now) ∙ sym c.in-Some-get_mut.ensures.value; absent = tt },
    )

pub returns-in-None : goal.returns-in-None
returns-in-None c =
    let place = place-of c.args.name.now c.as_slice.result.now c.self.inside.parts.items c.place-at.result c.place-at.ensures c.as_slice.ensures.value in
    let map = same-names (arc_value c.in-Some.part.now) c.in-Ok.names.now c.in-Ok.ensures.value in (
      (refl, λ w e. absurd (true≢false (sym e)), ap flat (item-same c.self.inside.parts.items c.place-at.result c.in-Some.part.now (c.make_mut.follows.lender c.get_mut-2.follows.lender-at-none) c.in-Some.ensures.item.3.0 c.in-Some.ensures.item.1 (c.make_mut.follows.holds c.get_mut-2.follows.lender-at-none (ap is_ok c.in-Ok.is) ∙ c.get_mut-2.follows.holds-at-none ∙ same-names (arc_value c.in-Some.part.now) c.in-Ok.names.now c.in-Ok.ensures.value)) ∙ c.self.view_is),
      record { lends = tt; kid = tt; absent = λ _ _. item-found c.self.inside.parts.items c.place-at.result c.in-Some.part.now c.in-Some.part.now c.in-Some.ensures.item.3.0 c.in-Some.ensures.item.1 c.args.name.now place c.args.self.now c.self.view_is ∙ ap (find name_cmp c.args.name.now) (sym map) ∙ sym (lookup-find c.args.name.now c.in-Ok.names.now) ∙ sym c.in-None.ensures.value },
    )
