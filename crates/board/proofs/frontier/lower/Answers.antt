use Rattle.std.proofs.Common.{◌≡◌, ◌∙◌, ◌<◌, inl, inr, length, sym, arith, rules}
use Rattle.std.specs.Prelude.{slice_index}
use Rattle.std.proofs.lemmas.List.{get_or_read}
use Rattle.board.proofs.CountLemmas.{lower-bound, lower-step}
use Rattle.board.proofs.frontier.lower.Goals as goal
use Rattle.board.proofs.frontier.lower.Goals.{then-waiting-user-eq0, else-waiting-user-eq0}

pub offset_bounds-waiting-user : goal.offset_bounds-waiting-user
offset_bounds-waiting-user c =
    let place : c.loop-user.user-index < length c.args.users.now = omega (arith, c.loop-user-test.true) in
    let user : slice_index c.args.users.now c.loop-user.user-index ≡ c.index-user.result = sym (c.index-user.ensures ∙ get_or_read c.args.users.now c.loop-user.user-index c.user-item.result place c.user-item.is 0) in
    let bound : c.index-user.result < length c.loop-user.waiting = (lower-bound c.args.users.now c.loop-user.waiting c.loop-user.user-index c.index-user.result c.loop-user.invariant.rest place user).0 in
    search rules

pub bounds-waiting-user : goal.bounds-waiting-user
bounds-waiting-user c =
    let place : c.loop-user.user-index < length c.args.users.now = omega (arith, c.loop-user-test.true) in
    let user : slice_index c.args.users.now c.loop-user.user-index ≡ c.index-user.result = sym (c.index-user.ensures ∙ get_or_read c.args.users.now c.loop-user.user-index c.user-item.result place c.user-item.is 0) in
    (lower-bound c.args.users.now c.loop-user.waiting c.loop-user.user-index c.index-user.result c.loop-user.invariant.rest place user).0

pub loop-user-preserved : goal.loop-user-preserved
loop-user-preserved c =
    let place : c.loop-user.user-index < length c.args.users.now = omega (arith, c.loop-user-test.true) in
    let user : slice_index c.args.users.now c.loop-user.user-index ≡ c.index-user.result = sym (c.index-user.ensures ∙ get_or_read c.args.users.now c.loop-user.user-index c.user-item.result place c.user-item.is 0) in
    let bound = lower-bound c.args.users.now c.loop-user.waiting c.loop-user.user-index c.index-user.result c.loop-user.invariant.rest place user in
    lower-step c.args.users.now c.loop-user.user-index c.index-user.result c.args.waiting.now c.loop-user.waiting c.args.available.now c.loop-user.available c.if-waiting-user-eq0.available c.loop-user.invariant place user (omega (arith, bound.0, c.loop-user.auto.waiting, c.loop-user.invariant.available_long, c.requires.room)) (elim c.if-waiting-user-eq0.branch [
      | then-waiting-user-eq0 w ↦ inl (w.if-waiting-user-eq0.true, w.available-is ∙ w.insert.ensures)
      | else-waiting-user-eq0 w ↦ inr (w.if-waiting-user-eq0.false, w.available-is)
    ])
