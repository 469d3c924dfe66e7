use Rattle.std.proofs.Common.{sym, subst, refl, List, ℕ, ◌+◌, length}
use Rattle.ignorefile.specs.PrivateRanks.{AreInOrder}
use Rattle.ignorefile.specs.PrivateLeft.{AreLiving}
use Rattle.ignorefile.proofs.Deciding.{lying-order, moved-order}
use Rattle.ignorefile.proofs.index.Index.left_in.Goals as goal

pub living-requires : goal.living-requires
living-requires c = moved-order _ _ _ _ refl c.positions_lying-lying.ensures (lying-order _ _ _ _ _ _ c.requires c.args.folder.now)

pub living-requires-3 : goal.living-requires-3
living-requires-3 c = subst (λ (ns : List ℕ). AreInOrder (length c.args.lines.now) ns) (sym c.under.ensures) (c.requires.counted_order (length c.args.folder.now + 1))

pub returns : goal.returns
returns c = record {
  lying = subst (λ (ns : List ℕ). AreLiving c.args.lines.now ns c.args.folder.now c.in_ok-lying.lying) c.positions_lying-lying.ensures c.in_ok-lying.ensures;
  others = subst (λ (ns : List ℕ). AreLiving c.args.lines.now ns c.args.folder.now c.in_ok-others.others) c.as_slice.ensures c.in_ok-others.ensures;
  counted = subst (λ (ns : List ℕ). AreLiving c.args.lines.now ns c.args.folder.now c.in_ok-counted.counted) c.under.ensures c.in_ok-counted.ensures;
}
