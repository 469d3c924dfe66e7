use Rattle.std.proofs.Common.{refl, sym, ap, subst, ◌∙◌, arith}
use Rattle.ignorefile.specs.PrivateLeft.{AreLeavesOf, positions_in}
use Rattle.ignorefile.proofs.Leaves.{leaves-none, leaves-more, positions-more}
use Rattle.ignorefile.proofs.Leaving.{left-none, left-all, left-within, left-more, left-dropped}
use Rattle.ignorefile.proofs.index.living.Goals as goal
use Rattle.ignorefile.proofs.index.living.Goals.{then-not-is_dead_at+in_ok-push, else-not-is_dead_at}

pub loop-position-init : goal.loop-position-init
loop-position-init c = (left-none _ _ _ _ (ap positions_in c.new-left.ensures), leaves-none _ _ c.new-left.ensures)

pub is_dead_at-requires : goal.is_dead_at-requires
is_dead_at-requires c = left-within c.args.lines.now c.args.positions.now c.loop-position.position-index _ c.args.folder.now (positions_in c.loop-position.left) c.requires c.loop-position-test.true refl c.loop-position.invariant.0

pub leaf_at-requires : goal.leaf_at-requires
leaf_at-requires c = left-within c.args.lines.now c.args.positions.now c.loop-position.position-index _ c.args.folder.now (positions_in c.loop-position.left) c.requires c.loop-position-test.true refl c.loop-position.invariant.0

pub loop-position-preserved : goal.loop-position-preserved
loop-position-preserved c =
    elim c.if-not-is_dead_at.branch [
      | then-not-is_dead_at+in_ok-push w ↦ (
        left-more c.args.lines.now c.args.positions.now c.loop-position.position-index _ c.args.folder.now (positions_in c.loop-position.left) c.requires c.loop-position-test.true refl c.loop-position.invariant.0 _
            (positions-more _ _ _ _ (w.left-is ∙ w.in_ok-push.ensures.ok) w.leaf_at.ensures.position),
        leaves-more _ _ _ _ c.loop-position.invariant.1 w.leaf_at.ensures.known (w.left-is ∙ w.in_ok-push.ensures.ok),
      )
      | else-not-is_dead_at w ↦ (
        left-dropped c.args.lines.now c.args.positions.now c.loop-position.position-index _ c.args.folder.now (positions_in c.loop-position.left) c.requires c.loop-position-test.true refl c.loop-position.invariant.0 _ (ap positions_in w.left-is) (w.if-not-is_dead_at.ensures refl),
        subst (AreLeavesOf c.args.lines.now) (sym w.left-is) c.loop-position.invariant.1,
      )
    ]

pub returns : goal.returns
returns c = record {
  stand = left-all c.args.lines.now c.args.positions.now c.loop-position.position-index c.args.folder.now (positions_in c.loop-position.left) (let h = c.loop-position-test.false in omega arith) c.loop-position.invariant.0;
  known = c.loop-position.invariant.1;
}
