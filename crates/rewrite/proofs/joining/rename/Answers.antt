use Rattle.std.proofs.Common.{◌≡◌, ◌<◌, length, arith, sym, subst, ◌∙◌}
use Rattle.rewrite.specs.Pruned.{AreNames}
use Rattle.rewrite.specs.PrivateJoined.{HasName}
use Rattle.rewrite.proofs.RenameFacts.{all_kept, renames_end}
use Rattle.rewrite.proofs.joining.rename.Goals as goal

pub find_name-requires : goal.find_name-requires
find_name-requires c =
    let is = c.loop-input.invariant in
    let lt : c.loop-input.input-index < length c.args.inputs = omega (arith, is.long, c.loop-input-test.true) in
    subst (HasName c.args.names.now) (sym (is.rest c.loop-input.input-index c.input-item.result (omega arith))) (c.requires c.loop-input.input-index c.input-item.result lt)

pub returns : goal.returns
returns c =
    let is = c.loop-input.invariant in
    let long : length c.loop-input.input-items ≡ c.into_vec-found.result.len = omega (arith, c.loop-input.auto.input-items, c.deref_mut-input-items.ensures.len) in
    subst (AreNames c.args.names.now c.args.inputs) (sym (c.from_vec.ensures ∙ all_kept c.into_vec-found.result.len c.loop-input.input-items c.into_vec-found.result.items long))
    (renames_end c.args.names.now c.args.inputs c.loop-input.input-items c.loop-input.input-index is (omega (arith, c.loop-input.auto.input-items, c.loop-input-test.false)))
