use Rattle.std.specs.Prelude.{◌≡◌, ◌<◌, ◌+◌, ℕ, List, Some, length, slice_get}
use Rattle.std.proofs.Common.{sym, ◌∙◌, ap, subst, arith}
use Rattle.std.proofs.lemmas.List.{with_items_is}
use Rattle.std.proofs.lemmas.Option.{slice_get-get_or}
use Rattle.stages.specs.declared.stage.ResolvedStage.{ResolvedStage}
use Rattle.evaluation.specs.PrivateKept.{with_user}
use Rattle.evaluation.proofs.UserFacts.{Noted, noted_first, noted_more, noted_skipped, tells_wanted}
use Rattle.evaluation.proofs.users.Users.of.Goals.{then-is_marked, else-is_marked}
use Rattle.evaluation.proofs.users.Users.of.Goals as goal

pub loop-user-init : goal.loop-user-init
loop-user-init c = noted_first _ _ _

pub loop-user-preserved : goal.loop-user-preserved
loop-user-preserved c =
    let l = c.loop-user in
    let stages = c.args.stages.now in
    let stage : ResolvedStage = c.index-stages-user.result in
    let within : l.user < length stages = omega (arith, c.loop-user-test.true) in
    let there : slice_get stages l.user ≡ Some stage = slice_get-get_or stages l.user stage within ∙ ap Some (sym c.index-stages-user.is) in
    elim c.if-is_marked.branch [
      | then-is_marked w ↦
          let new = w.note_user.new.last in
          let now = with_items_is l.last new (omega (arith, w.note_user.auto.last, w.as_mut_slice.ensures.len)) in
          noted_more c.args.needed.now stages l.user l.last.items c.if-is_marked.last.items stage there
          (ap (λ last. last.items) w.last-is ∙ (now ∙ (w.note_user.ensures ∙ ap (λ (last : List ℕ). with_user last stage.base l.user) w.as_mut_slice.ensures.value))) l.invariant
      | else-is_marked w ↦
          subst (λ last. Noted c.args.needed.now stages (l.user + 1) last.items) (sym w.last-is)
          (noted_skipped c.args.needed.now stages l.user l.last.items (sym c.is_marked.ensures ∙ w.if-is_marked.false) l.invariant)
    ]

pub returns : goal.returns
returns c =
    let l = c.loop-user in
    let past = c.loop-user-test.false in
    tells_wanted c.args.needed.now c.args.stages.now l.user (record { target = c.args.target; last = c.from_vec.result }) (omega (arith, past))
    (subst (λ (last : List ℕ). Noted c.args.needed.now c.args.stages.now l.user last) (sym c.from_vec.ensures) l.invariant)
