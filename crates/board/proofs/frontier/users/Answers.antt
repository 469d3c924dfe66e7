use Rattle.std.proofs.Common.{◌≡◌, ◌≢◌, ◌∙◌, ◌<◌, ◌≤◌, ◌+◌, ℕ, Some, length, sym, ap, arith}
use Rattle.std.specs.Prelude.{slice_get}
use Rattle.std.proofs.lemmas.List.{with_items_is}
use Rattle.std.proofs.lemmas.Option.{slice_get-get_or}
use Rattle.llb.specs.declared.vertex.Vertex.{Vertex}
use Rattle.board.specs.PrivateFrontier.{users_at, IsNoted, times}
use Rattle.board.proofs.CountLemmas.{users-step, users-all}
use Rattle.board.proofs.frontier.users.Goals as goal

pub loop-number-preserved : goal.loop-number-preserved
loop-number-preserved c =
    let l = c.loop-number in
    let vertices = c.args.vertices.now in
    let old = l.users.items in
    let new = c.note_user.new.users in
    let v : Vertex = c.index-vertices-number.result in
    let within : l.number < length vertices = omega (arith, c.loop-number-test.true) in
    let there : slice_get vertices l.number ≡ Some v = slice_get-get_or vertices l.number v within ∙ ap Some (sym c.index-vertices-number.is) in
    let noted : IsNoted l.number v.inputs old new = rw (c.new-user.ensures, c.as_slice.ensures, c.as_mut_slice.ensures.value) at c.in_ok-note_user.ensures in
    let now = with_items_is l.users new (omega (arith, c.note_user.auto.users, c.as_mut_slice.ensures.len)) in
    let long : length new ≡ length vertices = omega (arith, c.note_user.auto.users, c.as_mut_slice.ensures.len, l.users.ok.0, l.invariant.long) in
    let others : (input user : ℕ) → l.number + 1 ≤ user → times user (users_at new input) ≡ 0 = λ input user past. (let differ : user ≢ l.number = omega (arith, past) in noted.others input user differ ∙ l.invariant.others input user (omega (arith, past))) in
    rw now (record {
      long = long;
      noted = users-step vertices old new l.number v there l.invariant.noted l.invariant.others noted;
      others = others;
    })

pub returns : goal.returns
returns c =
    users-all c.args.vertices.now c.loop-number.users.items c.loop-number.number c.loop-number.invariant.long (omega (arith, c.loop-number-test.false)) c.loop-number.invariant.noted c.loop-number.invariant.others
