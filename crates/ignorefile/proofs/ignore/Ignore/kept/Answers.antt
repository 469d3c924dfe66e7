use Rattle.std.specs.Prelude.{◌↔◌, IsTrue}
use Rattle.std.proofs.Common.{arith, refl, ◌∙◌, ◌≤◌, ◌-◌, sym, subst, List, ℕ, length, take, get_or, replicate}
use Rattle.ignorefile.specs.declared.line.Line.{Line}
use Rattle.ignorefile.specs.declared.index.Left.{Left}
use Rattle.ignorefile.specs.PrivateLeft.{IsLeft}
use Rattle.ignorefile.specs.PrivateRanks.{Lets}
use Rattle.ignorefile.proofs.Deciding.{decided-within}
use Rattle.ignorefile.proofs.Handing.{Handed, handed-start, handed-shared, flags-none, flags-more}
use Rattle.ignorefile.proofs.Leaving.{one-folder}
use Rattle.ignorefile.proofs.ignore.Ignore.kept.Goals as goal
use Rattle.ignorefile.proofs.ignore.Ignore.kept.Goals.{then-shared-folder+in_ok-left-2, else-shared-folder+else-folder-folder_of}

pub loop-row-init : goal.loop-row-init
loop-row-init g c = record {
  handed = handed-start c.as_slice-lines.result.now (replicate 65 c.verdict-decided.result) _ refl c.verdict-decided.ensures;
  few = omega arith;
  flags = flags-none g.row.T.Denot c.args.self.now _ c.in_ok-flags.ensures.items;
  left = c.in_ok-left.ensures;
}

pub hand_down-requires-clause-left : goal.hand_down-requires-clause-left
hand_down-requires-clause-left g c =
    elim c.if-shared-folder.branch [
      | then-shared-folder+in_ok-left-2 w ↦
          subst (λ (l : Left). IsLeft c.as_slice-lines.result.now c.self.inside.index (take (length c.components-names.result.now - 1) c.components-names.result.now) l) (sym w.left-is)
          (subst (λ (p : List (List ℕ)). IsLeft c.as_slice-lines.result.now c.self.inside.index p w.in_ok-left-2.left) c.folder_of-folder.ensures w.in_ok-left-2.ensures)
      | else-shared-folder+else-folder-folder_of w ↦
          subst (λ (l : Left). IsLeft c.as_slice-lines.result.now c.self.inside.index (take (length c.components-names.result.now - 1) c.components-names.result.now) l) (sym w.left-is)
          (one-folder c.as_slice-lines.result.now c.self.inside.index c.loop-row.last.now c.components-names.result.now w.folder_of.result.now c.folder_of-folder.result.now c.count_shared-shared.result c.loop-row.left c.count_shared-shared.ensures w.folder_of.ensures
          c.folder_of-folder.ensures (let h = w.if-shared-folder.false in omega arith) (let h = w.if-folder-folder_of.false in omega arith) c.loop-row.invariant.left)
    ]

pub hand_down-requires-clause-before : goal.hand_down-requires-clause-before
hand_down-requires-clause-before g c = handed-shared _ _ _ _ _ c.count_shared-shared.ensures c.loop-row.invariant.handed

pub lets-requires : goal.lets-requires
lets-requires g c = decided-within _ _ _ (c.hand_down.ensures (length c.components-names.result.now) (omega arith))

pub loop-row-preserved : goal.loop-row-preserved
loop-row-preserved g c = record {
  handed = c.hand_down.ensures;
  few = subst (λ (p : List (List ℕ)). length p ≤ 64) (sym c.components-names.ensures.value) c.components-names.ensures.clean.few;
  flags = flags-more _ _ _ _ _ _ _ _ _ c.loop-row-test.true c.row-item.is c.components-names.ensures.value c.loop-row.invariant.flags
      (subst (λ (l : List Line). Handed l c.components-names.result.now c.hand_down.new.decided (length c.components-names.result.now)) (c.as_slice-lines.ensures ∙ c.self.view_is) c.hand_down.ensures)
      (subst (λ (l : List Line). IsTrue c.lets.result ↔ Lets l (get_or c.hand_down.new.decided (length c.components-names.result.now) 0)) (c.as_slice-lines.ensures ∙ c.self.view_is) c.lets.ensures) c.in_ok-push.ensures.items;
  left = elim c.if-shared-folder.branch [
    | then-shared-folder+in_ok-left-2 w ↦
        subst (λ (l : Left). IsLeft c.as_slice-lines.result.now c.self.inside.index (take (length c.components-names.result.now - 1) c.components-names.result.now) l) (sym w.left-is)
        (subst (λ (p : List (List ℕ)). IsLeft c.as_slice-lines.result.now c.self.inside.index p w.in_ok-left-2.left) c.folder_of-folder.ensures w.in_ok-left-2.ensures)
    | else-shared-folder+else-folder-folder_of w ↦
        subst (λ (l : Left). IsLeft c.as_slice-lines.result.now c.self.inside.index (take (length c.components-names.result.now - 1) c.components-names.result.now) l) (sym w.left-is)
        (one-folder c.as_slice-lines.result.now c.self.inside.index c.loop-row.last.now c.components-names.result.now w.folder_of.result.now c.folder_of-folder.result.now c.count_shared-shared.result c.loop-row.left c.count_shared-shared.ensures w.folder_of.ensures
        c.folder_of-folder.ensures (let h = w.if-shared-folder.false in omega arith) (let h = w.if-folder-folder_of.false in omega arith) c.loop-row.invariant.left)
  ];
}
