use Rattle.std.proofs.Common.{◌≡◌, ◌∙◌, ◌<◌, ◌++◌, ◌∷◌, [], length, sym, ap, arith}
use Rattle.std.specs.Prelude.{slice_index}
use Rattle.std.proofs.lemmas.List.{get_or_read, get_or_default}
use Rattle.board.specs.PrivateFrontier.{users_at}
use Rattle.board.proofs.CountLemmas.{note-own, note-others}
use Rattle.board.proofs.frontier.note_user.Goals as goal

pub loop-input-preserved : goal.loop-input-preserved
loop-input-preserved c =
    let users = c.loop-input.users in
    let inputs = c.args.inputs.now in
    let place : c.loop-input.input-index < length inputs = omega (arith, c.loop-input-test.true) in
    let at : slice_index inputs c.loop-input.input-index ≡ c.index.result = sym (c.index.ensures ∙ get_or_read inputs c.loop-input.input-index c.input-item.result place c.input-item.is 0) in
    let within : c.index.result < length users = (let below = c.requires c.loop-input.input-index 0 place in omega (arith, below, at, c.loop-input.auto.users)) in
    let now : c.push.new.self ≡ users_at users c.index.result ++ c.args.user ∷ [] = c.in_ok-push.ensures.ok ∙ ap (λ xs. xs ++ c.args.user ∷ []) (get_or_default users c.index.result c.index-users-index.result [] within) in
    record {
      own = λ input. note-own users inputs c.loop-input.input-index c.args.user c.index.result c.push.new.self place at within now input ∙ c.loop-input.invariant.own input;
      others = λ input other differ. note-others users c.args.user c.index.result c.push.new.self within now input other differ ∙ c.loop-input.invariant.others input other differ;
    }
