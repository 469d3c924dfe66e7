use Rattle.std.proofs.Common.{arith, ◌∙◌, sym, subst, List, ℕ, ◌+◌, take, get_or}
use Rattle.std.proofs.lemmas.List.{length-set, take_all}
use Rattle.ignorefile.specs.PrivateRanks.{IsVerdict}
use Rattle.ignorefile.proofs.Handing.{handed-more}
use Rattle.ignorefile.proofs.index.Index.hand_down.Goals as goal
use Rattle.ignorefile.proofs.index.Index.hand_down.Goals.{then-depth-names, else-depth-names}

pub loop-depth-preserved : goal.loop-depth-preserved
loop-depth-preserved c = (
  handed-more _ _ _ _ _ (let a = c.loop-depth.invariant.1 in let b = c.requires.few in let d = c.loop-depth-test.true in omega arith) c.loop-depth-test.true c.loop-depth.invariant.0
      (elim c.if-depth-names.branch [
        | then-depth-names w ↦ subst (IsVerdict c.args.lines.now (take (c.loop-depth.depth + 1) c.args.names.now) (get_or c.loop-depth.decided c.loop-depth.depth 0)) (sym w.rank-is) w.verdict-rank.ensures
        | else-depth-names w ↦
            subst (IsVerdict c.args.lines.now (take (c.loop-depth.depth + 1) c.args.names.now) (get_or c.loop-depth.decided c.loop-depth.depth 0)) (sym w.rank-is)
            (subst (λ (p : List (List ℕ)). IsVerdict c.args.lines.now p (get_or c.loop-depth.decided c.loop-depth.depth 0) w.verdict_left-rank.result) (sym (take_all (c.loop-depth.depth + 1) c.args.names.now (let h = w.if-depth-names.false in omega arith))) w.verdict_left-rank.ensures)
      ]),
  length-set _ _ _ ∙ c.loop-depth.invariant.1,
)
