use Rattle.std.proofs.Common.{◌∷◌, [], Ok, Err}
use Rattle.std.specs.Vec.Iter.{into_iter_items}
use Rattle.trees.specs.PrivateNode.{map_of}
use Rattle.trees.specs.PrivateCopy.{kind_in}
use Rattle.trees.proofs.PlacingSteps.{made-step, made-fault, one-change, handed-on}
use Rattle.trees.proofs.apply.apply_all.Goals as goal

pub loop-change-preserved : goal.loop-change-preserved
loop-change-preserved c =
    let now = kind_in c.loop-change.placed.entries in
    let then = kind_in c.apply.new.placed.entries in
    made-step c.args.parent.now c.args.changes.items (kind_in c.args.placed.now.entries) (map_of c.args.root.now) (into_iter_items c.loop-change.change-iterator) now (map_of c.loop-change.root) c.loop-change.invariant
    (c.in-Some.change ∷ []) (into_iter_items c.next.new.self) then (map_of c.apply.new.root) c.in-Some.ensures.steps.0
    (one-change c.args.parent.now c.in-Some.change now (map_of c.loop-change.root) then (map_of c.apply.new.root) (Ok tt) c.in_ok-apply.ensures)

pub returns-in_err-apply : goal.returns-in_err-apply
returns-in_err-apply c =
    let now = kind_in c.loop-change.placed.entries in
    let then = kind_in c.apply.new.placed.entries in
    let fault = c.in_err-apply.field-0.0 in
    handed-on c.args.parent.now c.args.changes.items (kind_in c.args.placed.now.entries) (map_of c.args.root.now) then (map_of c.apply.new.root) fault c.from_residual.result c.from_residual.ensures.1
    (made-fault c.args.parent.now c.args.changes.items (kind_in c.args.placed.now.entries) (map_of c.args.root.now) (into_iter_items c.loop-change.change-iterator) now (map_of c.loop-change.root) c.loop-change.invariant
    (c.in-Some.change ∷ []) (into_iter_items c.next.new.self) then (map_of c.apply.new.root) c.in-Some.ensures.steps.0 then (map_of c.apply.new.root) fault
    (one-change c.args.parent.now c.in-Some.change now (map_of c.loop-change.root) then (map_of c.apply.new.root) (Err fault) c.in_err-apply.ensures))
