use Rattle.std.proofs.Common.{ap, ◌∙◌, sym, refl, subst, cond, IsSome, Option}
use Rattle.std.proofs.lemmas.Result.{on_ok_weaker, on_err_weaker}
use Rattle.trees.proofs.NodeSteps.{own-planted, plant-kid, plant-step, keep-kid}
use Rattle.std.proofs.Common.{◌≡◌, ◌+◌, ◌<◌, ◌≤◌, Some, None, arith, length}
use Rattle.std.specs.Map.{lookup, keys_of}
use Rattle.std.specs.BTreeMap.{is_at}
use Rattle.std.specs.FinMap.{find, get}
use Rattle.paths.specs.Order.{name_cmp}
use Rattle.trees.specs.TreeMap.{TreeMap}
use Rattle.trees.specs.PrivateNode.{NodeValue, map_of, height_of, flat, joined, IsDepth, IsPlanted}
use Rattle.trees.specs.PrivateHeld.{held_value}
use Rattle.trees.proofs.NodeLaws.{lookup-find}
use Rattle.trees.proofs.NodeSteps.{is-kid, kids-from, there, found-lower}
use Rattle.trees.proofs.PartSteps.{none-found, place-of, item-same, item-same_parts, item-keys, item-found, item-changed, found-changed, put-parts, put-kids, put-from, either-way, anyway}
use Rattle.trees.proofs.DepthSteps.{depth-planted, depth-more, max-left, max-right}
use Rattle.trees.proofs.BelowSteps.{leaf-bare}
use Rattle.std.specs.Arc.{arc_value}
use Rattle.trees.proofs.SeenSteps.{changed-here}
use Rattle.std.specs.Prelude.{is_ok}
use Rattle.std.proofs.Common.{List, ℕ}
use Rattle.trees.specs.PrivateNode.{IsPut}
use Rattle.trees.proofs.NodeSteps.{at-err}
use Rattle.trees.proofs.NameSteps.{same-names}
use Rattle.trees.proofs.+planting.Goals as goal

pub inner::Inner::plant-returns-in-empty-clause-ok : goal.inner::Inner::plant-returns-in-empty-clause-ok
inner::Inner::plant-returns-in-empty-clause-ok t c = own-planted _ _ _ _ _ _ c.self.view_is c.in-empty.len_below

pub inner::Inner::plant-returns-in-len1-up-clause-ok : goal.inner::Inner::plant-returns-in-len1-up-clause-ok
inner::Inner::plant-returns-in-len1-up-clause-ok t c =
    on_ok_weaker _ (plant-step _ _ c.self.inside.kids c.plant.new.self _ c.name-item.result _ _ c.self.view_is c.in-len1-up.len_at_least c.name-item.is) c.plant.ensures.ok

pub inner::Inner::plant-invariant_of-self-in-len1-up : goal.inner::Inner::plant-invariant_of-self-in-len1-up
inner::Inner::plant-invariant_of-self-in-len1-up t c =
    let d = c.self.inside.depth in
    let e = c.max-self-inside.result in
    let less : d ≤ e = max-left d (length c.args.path.now) e c.max-self-inside.ensures in
    either-way c.plant.result c.plant.ensures.ok c.plant.ensures.err
    (λ done. depth-planted d e (joined c.self.inside.kids) (joined c.plant.new.self) c.args.path.now c.name-item.result _ _ c.in-len1-up.len_at_least c.name-item.is less (max-right d (length c.args.path.now) e c.max-self-inside.ensures) done c.self.invariant)
    (λ kept. subst (λ (m : TreeMap). IsDepth e m) (sym kept) (depth-more d e (joined c.self.inside.kids) less c.self.invariant))

pub inner::Inner::plant-plant-requires : goal.inner::Inner::plant-plant-requires
inner::Inner::plant-plant-requires t c =
    let same : height_of c.self.inside.kids + 2 ≡ c.args.self.now.height = ap (λ v. v.height) c.self.view_is in
    let d : c.args.self.now.height + c.args.self.now.height ≡ t = c.decreases in
    let g : height_of c.self.inside.kids + height_of c.self.inside.kids + 1 < t = omega arith in
    (g, tt)

pub children::Children::plant-returns-in_default-clause-ok : goal.children::Children::plant-returns-in_default-clause-ok
children::Children::plant-returns-in_default-clause-ok t c =
    let none = there c.args.self.now c.args.name.now None (none-found c.args.name.now c.as_slice.result.now c.self.inside.parts.items c.args.self.now c.place-at.result c.self.view_is c.place-at.ensures c.as_slice.ensures.value c.in_default.ensures.item.3) in
    on_ok_weaker _ (λ h. plant-kid c.args.self.now c.insert.new.self c.args.name.now _ _ _ c.in_ok-kid.kid None none
    (is-kid c.args.self.now c.insert.new.self c.args.name.now c.in_ok-kid.kid (kids-from _ c.args.self.now c.insert.new.self c.args.name.now (Some c.in_ok-kid.kid) c.self.view_is h)) c.in_ok-kid.ensures) c.insert.ensures.ok

pub node::Node::plant-plant_leaf-requires : goal.node::Node::plant-plant_leaf-requires
node::Node::plant-plant_leaf-requires t c = leaf-bare c.self.inside.held (held_value c.self.inside.held) c.in_default.field-0 refl c.in_default.is

pub children::Children::plant-invariant_of-self-in_err-names : goal.children::Children::plant-invariant_of-self-in_err-names
children::Children::plant-invariant_of-self-in_err-names t c =
    item-same_parts c.self.inside.parts.items c.place-at.result c.in-Some.part.now c.make_mut.follows.lender-at-none c.in-Some.ensures.item.3.0 c.in-Some.ensures.item.1 c.self.invariant
    (same-names (arc_value c.in-Some.part.now) (arc_value c.make_mut.follows.lender-at-none) (at-err c.make_mut.result c.in_err-names.field-0.0 c.in_err-names.was c.make_mut.follows.holds-at-none))

pub children::Children::plant-returns-in_err-names-clause-err : goal.children::Children::plant-returns-in_err-names-clause-err
children::Children::plant-returns-in_err-names-clause-err t c =
    let same = same-names (arc_value c.in-Some.part.now) (arc_value c.make_mut.follows.lender-at-none) (at-err c.make_mut.result c.in_err-names.field-0.0 c.in_err-names.was c.make_mut.follows.holds-at-none) in
    anyway c.from_residual-in_err-names.result (ap joined (ap flat (item-same c.self.inside.parts.items c.place-at.result c.in-Some.part.now c.make_mut.follows.lender-at-none c.in-Some.ensures.item.3.0 c.in-Some.ensures.item.1 same) ∙ c.self.view_is))

pub children::Children::plant-plant-requires : goal.children::Children::plant-plant-requires
children::Children::plant-plant-requires t c =
    let place = place-of c.args.name.now c.as_slice.result.now c.self.inside.parts.items c.place-at.result c.place-at.ensures c.as_slice.ensures.value in
    let map = same-names (arc_value c.in-Some.part.now) c.in_ok-names.names.now c.in_ok-names.ensures.value in
    let found = item-found c.self.inside.parts.items c.place-at.result c.in-Some.part.now c.in-Some.part.now c.in-Some.ensures.item.3.0 c.in-Some.ensures.item.1 c.args.name.now place c.args.self.now c.self.view_is ∙ ap (find name_cmp c.args.name.now) (sym map) ∙ sym (lookup-find c.args.name.now c.in_ok-names.names.now) ∙ sym c.in-Some-get_mut.ensures.value in
    let low = found-lower c.args.self.now c.args.name.now c.in-Some-get_mut.kid.now found in
    let d : height_of c.args.self.now + height_of c.args.self.now + 1 ≡ t = c.decreases in
    let g : c.in-Some-get_mut.kid.now.height + c.in-Some-get_mut.kid.now.height + 1 < t = omega arith in
    (g, tt)

pub children::Children::plant-invariant_of-self-in-Some-get_mut : goal.children::Children::plant-invariant_of-self-in-Some-get_mut
children::Children::plant-invariant_of-self-in-Some-get_mut t c =
    let names = c.get_mut-2.follows.lender c.plant.new.self in
    let same = ap keys_of (c.make_mut.follows.holds names (ap is_ok c.in_ok-names.was)) ∙ (c.get_mut-2.follows.holds c.plant.new.self).names ∙ ap keys_of (same-names (arc_value c.in-Some.part.now) c.in_ok-names.names.now c.in_ok-names.ensures.value) in
    item-keys c.self.inside.parts.items c.place-at.result c.in-Some.part.now (c.make_mut.follows.lender names) c.in-Some.ensures.item.3.0 c.in-Some.ensures.item.1 c.self.invariant same

pub children::Children::plant-returns-in-Some-get_mut-clause-ok : goal.children::Children::plant-returns-in-Some-get_mut-clause-ok
children::Children::plant-returns-in-Some-get_mut-clause-ok t c =
    let new = c.plant.new.self in
    let place = place-of c.args.name.now c.as_slice.result.now c.self.inside.parts.items c.place-at.result c.place-at.ensures c.as_slice.ensures.value in
    let map = same-names (arc_value c.in-Some.part.now) c.in_ok-names.names.now c.in_ok-names.ensures.value in
    let stands = subst (λ (o : Option NodeValue). IsSome o) c.in-Some-get_mut.ensures.value refl in
    let found = item-found c.self.inside.parts.items c.place-at.result c.in-Some.part.now c.in-Some.part.now c.in-Some.ensures.item.3.0 c.in-Some.ensures.item.1 c.args.name.now place c.args.self.now c.self.view_is ∙ ap (find name_cmp c.args.name.now) (sym map) ∙ sym (lookup-find c.args.name.now c.in_ok-names.names.now) ∙ sym c.in-Some-get_mut.ensures.value in
    let names = c.get_mut-2.follows.lender new in
    let kids = item-changed c.self.inside.parts.items c.place-at.result c.in-Some.part.now (c.make_mut.follows.lender names) c.in-Some.ensures.item.3.0 c.in-Some.ensures.item.1 c.args.name.now place c.args.self.now c.self.view_is (Some new)
    (λ d. ap (find name_cmp d) (c.make_mut.follows.holds names (ap is_ok c.in_ok-names.was)) ∙ found-changed c.in-Some.part.now.value names c.args.name.now (Some new) (λ q. (c.get_mut-2.follows.holds new).at stands q ∙ ap (λ l. cond (is_at (name_cmp c.args.name.now) q) (Some new) (lookup (is_at (name_cmp q)) l)) map) d) in
    on_ok_weaker _ (plant-kid c.args.self.now _ c.args.name.now _ _ _ new (Some c.in-Some-get_mut.kid.now) (there c.args.self.now c.args.name.now (Some c.in-Some-get_mut.kid.now) found) (is-kid c.args.self.now _ c.args.name.now new kids)) c.plant.ensures.ok

pub children::Children::plant-returns-in-Some-get_mut-clause-err : goal.children::Children::plant-returns-in-Some-get_mut-clause-err
children::Children::plant-returns-in-Some-get_mut-clause-err t c =
    let new = c.plant.new.self in
    let place = place-of c.args.name.now c.as_slice.result.now c.self.inside.parts.items c.place-at.result c.place-at.ensures c.as_slice.ensures.value in
    let map = same-names (arc_value c.in-Some.part.now) c.in_ok-names.names.now c.in_ok-names.ensures.value in
    let stands = subst (λ (o : Option NodeValue). IsSome o) c.in-Some-get_mut.ensures.value refl in
    let found = item-found c.self.inside.parts.items c.place-at.result c.in-Some.part.now c.in-Some.part.now c.in-Some.ensures.item.3.0 c.in-Some.ensures.item.1 c.args.name.now place c.args.self.now c.self.view_is ∙ ap (find name_cmp c.args.name.now) (sym map) ∙ sym (lookup-find c.args.name.now c.in_ok-names.names.now) ∙ sym c.in-Some-get_mut.ensures.value in
    let names = c.get_mut-2.follows.lender new in
    let kids = item-changed c.self.inside.parts.items c.place-at.result c.in-Some.part.now (c.make_mut.follows.lender names) c.in-Some.ensures.item.3.0 c.in-Some.ensures.item.1 c.args.name.now place c.args.self.now c.self.view_is (Some new)
    (λ d. ap (find name_cmp d) (c.make_mut.follows.holds names (ap is_ok c.in_ok-names.was)) ∙ found-changed c.in-Some.part.now.value names c.args.name.now (Some new) (λ q. (c.get_mut-2.follows.holds new).at stands q ∙ ap (λ l. cond (is_at (name_cmp c.args.name.now) q) (Some new) (lookup (is_at (name_cmp q)) l)) map) d) in
    on_err_weaker _ (keep-kid c.args.self.now _ c.args.name.now new c.in-Some-get_mut.kid.now (there c.args.self.now c.args.name.now (Some c.in-Some-get_mut.kid.now) found) (is-kid c.args.self.now _ c.args.name.now new kids)) c.plant.ensures.err

pub children::Children::plant-invariant_of-self-in-Break-branch-3 : goal.children::Children::plant-invariant_of-self-in-Break-branch-3
children::Children::plant-invariant_of-self-in-Break-branch-3 t c =
    item-same_parts c.self.inside.parts.items c.place-at.result c.in-Some.part.now (c.make_mut.follows.lender c.get_mut-2.follows.lender-at-none) c.in-Some.ensures.item.3.0 c.in-Some.ensures.item.1 c.self.invariant (c.make_mut.follows.holds c.get_mut-2.follows.lender-at-none (ap is_ok c.in_ok-names.was) ∙ c.get_mut-2.follows.holds-at-none ∙ same-names (arc_value c.in-Some.part.now) c.in_ok-names.names.now c.in_ok-names.ensures.value)

pub children::Children::plant-returns-in_err-kid-2-clause-err : goal.children::Children::plant-returns-in_err-kid-2-clause-err
children::Children::plant-returns-in_err-kid-2-clause-err t c =
    let same = c.make_mut.follows.holds c.get_mut-2.follows.lender-at-none (ap is_ok c.in_ok-names.was) ∙ c.get_mut-2.follows.holds-at-none ∙ same-names (arc_value c.in-Some.part.now) c.in_ok-names.names.now c.in_ok-names.ensures.value in
    anyway c.from_residual-in_err-kid-2.result (ap joined (ap flat (item-same c.self.inside.parts.items c.place-at.result c.in-Some.part.now (c.make_mut.follows.lender c.get_mut-2.follows.lender-at-none) c.in-Some.ensures.item.3.0 c.in-Some.ensures.item.1 same) ∙ c.self.view_is))

pub children::Children::plant-invariant_of-self-then-has_room : goal.children::Children::plant-invariant_of-self-then-has_room
children::Children::plant-invariant_of-self-then-has_room t c =
    let place = place-of c.args.name.now c.as_slice.result.now c.self.inside.parts.items c.place-at.result c.place-at.ensures c.as_slice.ensures.value in
    let same = c.get_mut-2.follows.holds-at-none ∙ same-names (arc_value c.in-Some.part.now) c.in_ok-names.names.now c.in_ok-names.ensures.value in
    let held = c.make_mut.follows.holds c.put.new.self (ap is_ok c.in_ok-names.was) in
    either-way c.put.result c.put.ensures.ok c.put.ensures.err (λ done. put-parts c.self.inside.parts.items c.place-at.result c.in-Some.part.now (c.make_mut.follows.lender c.put.new.self) c.in-Some.ensures.item.3.0 c.in-Some.ensures.item.1 c.self.invariant c.args.name.now c.in_ok-kid-2.kid place (subst (λ (n : List (List ℕ × NodeValue)). IsPut c.args.name.now c.in_ok-kid-2.kid (arc_value c.in-Some.part.now) n) (sym held) (put-from c.args.name.now c.in_ok-kid-2.kid _ _ _ same done)))
    (λ kept. item-same_parts c.self.inside.parts.items c.place-at.result c.in-Some.part.now (c.make_mut.follows.lender c.put.new.self) c.in-Some.ensures.item.3.0 c.in-Some.ensures.item.1 c.self.invariant (held ∙ kept ∙ same))

pub children::Children::plant-returns-then-has_room-clause-ok : goal.children::Children::plant-returns-then-has_room-clause-ok
children::Children::plant-returns-then-has_room-clause-ok t c =
    let place = place-of c.args.name.now c.as_slice.result.now c.self.inside.parts.items c.place-at.result c.place-at.ensures c.as_slice.ensures.value in
    let map = same-names (arc_value c.in-Some.part.now) c.in_ok-names.names.now c.in_ok-names.ensures.value in
    let same = c.get_mut-2.follows.holds-at-none ∙ same-names (arc_value c.in-Some.part.now) c.in_ok-names.names.now c.in_ok-names.ensures.value in
    let held = c.make_mut.follows.holds c.put.new.self (ap is_ok c.in_ok-names.was) in
    let none = there c.args.self.now c.args.name.now None (item-found c.self.inside.parts.items c.place-at.result c.in-Some.part.now c.in-Some.part.now c.in-Some.ensures.item.3.0 c.in-Some.ensures.item.1 c.args.name.now place c.args.self.now c.self.view_is ∙ ap (find name_cmp c.args.name.now) (sym map) ∙ sym (lookup-find c.args.name.now c.in_ok-names.names.now) ∙ sym c.in_default-get_mut.ensures.value) in
    on_ok_weaker c.put.result (λ done. plant-kid c.args.self.now _ c.args.name.now _ _ _ c.in_ok-kid-2.kid None none
    (is-kid c.args.self.now _ c.args.name.now c.in_ok-kid-2.kid (put-kids c.self.inside.parts.items c.place-at.result c.in-Some.part.now (c.make_mut.follows.lender c.put.new.self) c.in-Some.ensures.item.3.0 c.in-Some.ensures.item.1 c.self.invariant c.args.name.now c.in_ok-kid-2.kid place (subst (λ (n : List (List ℕ × NodeValue)). IsPut c.args.name.now c.in_ok-kid-2.kid (arc_value c.in-Some.part.now) n) (sym held) (put-from c.args.name.now c.in_ok-kid-2.kid _ _ _ same done)) c.args.self.now c.self.view_is)) c.in_ok-kid-2.ensures) c.put.ensures.ok

pub children::Children::plant-returns-then-has_room-clause-err : goal.children::Children::plant-returns-then-has_room-clause-err
children::Children::plant-returns-then-has_room-clause-err t c =
    let same = c.get_mut-2.follows.holds-at-none ∙ same-names (arc_value c.in-Some.part.now) c.in_ok-names.names.now c.in_ok-names.ensures.value in
    let held = c.make_mut.follows.holds c.put.new.self (ap is_ok c.in_ok-names.was) in
    on_err_weaker c.put.result (λ kept. ap joined (ap flat (item-same c.self.inside.parts.items c.place-at.result c.in-Some.part.now (c.make_mut.follows.lender c.put.new.self) c.in-Some.ensures.item.3.0 c.in-Some.ensures.item.1 (held ∙ kept ∙ same)) ∙ c.self.view_is)) c.put.ensures.err

pub children::Children::plant-invariant_of-self-else-has_room : goal.children::Children::plant-invariant_of-self-else-has_room
children::Children::plant-invariant_of-self-else-has_room t c =
    item-same_parts c.self.inside.parts.items c.place-at.result c.in-Some.part.now (c.make_mut.follows.lender c.get_mut-2.follows.lender-at-none) c.in-Some.ensures.item.3.0 c.in-Some.ensures.item.1 c.self.invariant (c.make_mut.follows.holds c.get_mut-2.follows.lender-at-none (ap is_ok c.in_ok-names.was) ∙ c.get_mut-2.follows.holds-at-none ∙ same-names (arc_value c.in-Some.part.now) c.in_ok-names.names.now c.in_ok-names.ensures.value)

pub children::Children::plant-returns-clause-ok : goal.children::Children::plant-returns-clause-ok
children::Children::plant-returns-clause-ok t c =
    let place = place-of c.args.name.now c.as_slice.result.now c.self.inside.parts.items c.place-at.result c.place-at.ensures c.as_slice.ensures.value in
    let map = same-names (arc_value c.in-Some.part.now) c.in_ok-names.names.now c.in_ok-names.ensures.value in
    let same = c.make_mut.follows.holds c.get_mut-2.follows.lender-at-none (ap is_ok c.in_ok-names.was) ∙ c.get_mut-2.follows.holds-at-none ∙ same-names (arc_value c.in-Some.part.now) c.in_ok-names.names.now c.in_ok-names.ensures.value in
    let none = there c.args.self.now c.args.name.now None (item-found c.self.inside.parts.items c.place-at.result c.in-Some.part.now c.in-Some.part.now c.in-Some.ensures.item.3.0 c.in-Some.ensures.item.1 c.args.name.now place c.args.self.now c.self.view_is ∙ ap (find name_cmp c.args.name.now) (sym map) ∙ sym (lookup-find c.args.name.now c.in_ok-names.names.now) ∙ sym c.in_default-get_mut.ensures.value) in
    on_ok_weaker _ (λ h. plant-kid c.args.self.now c.insert-2.new.self c.args.name.now _ _ _ c.in_ok-kid-2.kid None none
    (is-kid c.args.self.now c.insert-2.new.self c.args.name.now c.in_ok-kid-2.kid (kids-from _ c.args.self.now c.insert-2.new.self c.args.name.now (Some c.in_ok-kid-2.kid) (ap flat (item-same c.self.inside.parts.items c.place-at.result c.in-Some.part.now (c.make_mut.follows.lender c.get_mut-2.follows.lender-at-none) c.in-Some.ensures.item.3.0 c.in-Some.ensures.item.1 same) ∙ c.self.view_is) h)) c.in_ok-kid-2.ensures) c.insert-2.ensures.ok

pub children::Children::plant-returns-clause-err : goal.children::Children::plant-returns-clause-err
children::Children::plant-returns-clause-err t c =
    let same = c.make_mut.follows.holds c.get_mut-2.follows.lender-at-none (ap is_ok c.in_ok-names.was) ∙ c.get_mut-2.follows.holds-at-none ∙ same-names (arc_value c.in-Some.part.now) c.in_ok-names.names.now c.in_ok-names.ensures.value in
    on_err_weaker c.insert-2.result (λ kept. ap joined (kept ∙ (ap flat (item-same c.self.inside.parts.items c.place-at.result c.in-Some.part.now (c.make_mut.follows.lender c.get_mut-2.follows.lender-at-none) c.in-Some.ensures.item.3.0 c.in-Some.ensures.item.1 same) ∙ c.self.view_is))) c.insert-2.ensures.err

pub node::Node::plant-returns-in-Some-clause-ok : goal.node::Node::plant-returns-in-Some-clause-ok
node::Node::plant-returns-in-Some-clause-ok t c =
    on_ok_weaker c.plant.result (changed-here (λ v n. IsPlanted (get (map_of v)) (map_of n) c.args.path.now c.args.parent c.args.entry) c.in-Folder.options (arc_value c.in-Folder.shared) c.in-Some.inner.now c.args.self.now c.plant.new.self (c.is_keeping.ensures c.if-is_keeping.true) c.in-Some.ensures.value
    (sym (ap held_value c.in-Folder.is) ∙ c.self.view_is)) c.plant.ensures.ok

pub node::Node::plant-returns-in-Some-clause-err : goal.node::Node::plant-returns-in-Some-clause-err
node::Node::plant-returns-in-Some-clause-err t c =
    on_err_weaker c.plant.result (changed-here (λ v n. map_of n ≡ map_of v) c.in-Folder.options (arc_value c.in-Folder.shared) c.in-Some.inner.now c.args.self.now c.plant.new.self (c.is_keeping.ensures c.if-is_keeping.true) c.in-Some.ensures.value
    (sym (ap held_value c.in-Folder.is) ∙ c.self.view_is)) c.plant.ensures.err
