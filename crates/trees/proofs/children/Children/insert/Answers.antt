use Rattle.std.proofs.Common.{ap, ◌∙◌, arith}
use Rattle.std.proofs.lemmas.Result.{on_ok_weaker, on_err_weaker}
use Rattle.trees.specs.PrivateNode.{flat}
use Rattle.trees.proofs.PartSteps.{place-inside, place-of, item-same, item-same_parts, put-parts, put-kids, either-way, some-parts}
use Rattle.trees.proofs.children.Children.insert.Goals as goal

pub index-requires : goal.index-requires
index-requires c =
    let some = some-parts c.self.inside.parts.len _ c.is_empty.ensures c.if-is_empty.false in
    let inside = place-inside c.args.name.now c.as_slice.result.now c.self.inside.parts.items c.place-first.result c.place-first.ensures c.as_slice.ensures.value (omega (arith, some, c.self.inside.parts.ok.0)) in
    omega (arith, inside, c.self.inside.parts.ok.0)

pub index_mut-requires : goal.index_mut-requires
index_mut-requires c =
    let some = some-parts c.self.inside.parts.len _ c.is_empty.ensures c.if-is_empty.false in
    let inside = place-inside c.args.name.now c.as_slice.result.now c.self.inside.parts.items c.place-first.result c.place-first.ensures c.as_slice.ensures.value (omega (arith, some, c.self.inside.parts.ok.0)) in
    omega (arith, inside, c.self.inside.parts.ok.0)

pub make_room-requires-clause-inside : goal.make_room-requires-clause-inside
make_room-requires-clause-inside c =
    let some = some-parts c.self.inside.parts.len _ c.is_empty.ensures c.if-is_empty.false in
    let inside = place-inside c.args.name.now c.as_slice.result.now c.self.inside.parts.items c.place-first.result c.place-first.ensures c.as_slice.ensures.value (omega (arith, some, c.self.inside.parts.ok.0)) in
    omega (arith, inside, c.self.inside.parts.ok.0)

pub index_mut-requires-2 : goal.index_mut-requires-2
index_mut-requires-2 c =
    let some = some-parts c.self.inside.parts.len _ c.is_empty.ensures c.if-is_empty.false in
    let inside = place-inside c.args.name.now c.as_slice-2.result.now c.make_room.new.parts.items c.place-at.result c.place-at.ensures c.as_slice-2.ensures.value (omega (arith, some, c.make_room.new.parts.ok.0, c.in_ok-make_room.ensures.more)) in
    omega (arith, inside, c.make_room.new.parts.ok.0)

pub invariant_of-self-then-has_room : goal.invariant_of-self-then-has_room
invariant_of-self-then-has_room c =
    let some = some-parts c.self.inside.parts.len _ c.is_empty.ensures c.if-is_empty.false in
    let inside = place-inside c.args.name.now c.as_slice.result.now c.self.inside.parts.items c.place-first.result c.place-first.ensures c.as_slice.ensures.value (omega (arith, some, c.self.inside.parts.ok.0)) in
    let place = place-of c.args.name.now c.as_slice.result.now c.self.inside.parts.items c.place-first.result c.place-first.ensures c.as_slice.ensures.value in
    either-way c.put.result c.put.ensures.ok c.put.ensures.err (λ done. put-parts c.self.inside.parts.items c.place-first.result c.index_mut.result.now c.put.new.part inside c.index_mut.ensures.value c.self.invariant c.args.name.now c.args.kid place done) (λ same. item-same_parts c.self.inside.parts.items c.place-first.result c.index_mut.result.now c.put.new.part inside c.index_mut.ensures.value c.self.invariant same)

pub returns-then-has_room-clause-ok : goal.returns-then-has_room-clause-ok
returns-then-has_room-clause-ok c =
    let some = some-parts c.self.inside.parts.len _ c.is_empty.ensures c.if-is_empty.false in
    let inside = place-inside c.args.name.now c.as_slice.result.now c.self.inside.parts.items c.place-first.result c.place-first.ensures c.as_slice.ensures.value (omega (arith, some, c.self.inside.parts.ok.0)) in
    let place = place-of c.args.name.now c.as_slice.result.now c.self.inside.parts.items c.place-first.result c.place-first.ensures c.as_slice.ensures.value in
    on_ok_weaker c.put.result (λ done. put-kids c.self.inside.parts.items c.place-first.result c.index_mut.result.now c.put.new.part inside c.index_mut.ensures.value c.self.invariant c.args.name.now c.args.kid place done c.args.self.now c.self.view_is) c.put.ensures.ok

pub returns-then-has_room-clause-err : goal.returns-then-has_room-clause-err
returns-then-has_room-clause-err c =
    let some = some-parts c.self.inside.parts.len _ c.is_empty.ensures c.if-is_empty.false in
    let inside = place-inside c.args.name.now c.as_slice.result.now c.self.inside.parts.items c.place-first.result c.place-first.ensures c.as_slice.ensures.value (omega (arith, some, c.self.inside.parts.ok.0)) in
    on_err_weaker c.put.result (λ same. ap flat (item-same c.self.inside.parts.items c.place-first.result c.index_mut.result.now c.put.new.part inside c.index_mut.ensures.value same) ∙ c.self.view_is) c.put.ensures.err

pub invariant_of-self-2 : goal.invariant_of-self-2
invariant_of-self-2 c =
    let some = some-parts c.self.inside.parts.len _ c.is_empty.ensures c.if-is_empty.false in
    let inside = place-inside c.args.name.now c.as_slice-2.result.now c.make_room.new.parts.items c.place-at.result c.place-at.ensures c.as_slice-2.ensures.value (omega (arith, some, c.make_room.new.parts.ok.0, c.in_ok-make_room.ensures.more)) in
    let place = place-of c.args.name.now c.as_slice-2.result.now c.make_room.new.parts.items c.place-at.result c.place-at.ensures c.as_slice-2.ensures.value in
    either-way c.put-2.result c.put-2.ensures.ok c.put-2.ensures.err (λ done. put-parts c.make_room.new.parts.items c.place-at.result c.index_mut-2.result.now c.put-2.new.part inside c.index_mut-2.ensures.value c.in_ok-make_room.ensures.parts c.args.name.now c.args.kid place done) (λ same. item-same_parts c.make_room.new.parts.items c.place-at.result c.index_mut-2.result.now c.put-2.new.part inside c.index_mut-2.ensures.value c.in_ok-make_room.ensures.parts same)

pub returns-clause-ok : goal.returns-clause-ok
returns-clause-ok c =
    let some = some-parts c.self.inside.parts.len _ c.is_empty.ensures c.if-is_empty.false in
    let inside = place-inside c.args.name.now c.as_slice-2.result.now c.make_room.new.parts.items c.place-at.result c.place-at.ensures c.as_slice-2.ensures.value (omega (arith, some, c.make_room.new.parts.ok.0, c.in_ok-make_room.ensures.more)) in
    let place = place-of c.args.name.now c.as_slice-2.result.now c.make_room.new.parts.items c.place-at.result c.place-at.ensures c.as_slice-2.ensures.value in
    on_ok_weaker c.put-2.result (λ done. put-kids c.make_room.new.parts.items c.place-at.result c.index_mut-2.result.now c.put-2.new.part inside c.index_mut-2.ensures.value c.in_ok-make_room.ensures.parts c.args.name.now c.args.kid place done c.args.self.now (c.in_ok-make_room.ensures.kids ∙ c.self.view_is)) c.put-2.ensures.ok

pub returns-clause-err : goal.returns-clause-err
returns-clause-err c =
    let some = some-parts c.self.inside.parts.len _ c.is_empty.ensures c.if-is_empty.false in
    let inside = place-inside c.args.name.now c.as_slice-2.result.now c.make_room.new.parts.items c.place-at.result c.place-at.ensures c.as_slice-2.ensures.value (omega (arith, some, c.make_room.new.parts.ok.0, c.in_ok-make_room.ensures.more)) in
    on_err_weaker c.put-2.result (λ same. ap flat (item-same c.make_room.new.parts.items c.place-at.result c.index_mut-2.result.now c.put-2.new.part inside c.index_mut-2.ensures.value same) ∙ (c.in_ok-make_room.ensures.kids ∙ c.self.view_is)) c.put-2.ensures.err
