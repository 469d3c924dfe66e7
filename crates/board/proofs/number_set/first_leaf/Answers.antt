use Rattle.std.proofs.Common.{◌≡◌, ◌%◌, ◌≤◌, arith}
use Rattle.board.specs.PrivateNumbers.{IsSeen}
use Rattle.board.proofs.NumberLemmas.{seen-low, seen-high, seen-up}
use Rattle.board.proofs.number_set.first_leaf.Goals as goal
use Rattle.board.proofs.number_set.first_leaf.Goals.{then-low-eq1, else-low-eq1, then-high-eq1, else-high-eq1}

pub loop-low-preserved : goal.loop-low-preserved
loop-low-preserved c =
    let nodes = c.args.nodes.now in
    let l = c.loop-low in
    let low : IsSeen nodes c.args.leaf c.if-low-eq1.low l.high c.if-low-eq1.first × (c.if-low-eq1.low % 2 ≡ 0) × (c.if-low-eq1.low ≤ l.high) = elim c.if-low-eq1.branch [
      | then-low-eq1 w ↦ rw (w.low-is, w.first-is) (seen-low nodes c.args.leaf l.low l.high l.first w.lesser-first.result l.invariant c.loop-low-test.true w.lesser-first.ensures, omega (arith, w.if-low-eq1.true), omega (arith, c.loop-low-test.true))
      | else-low-eq1 w ↦ rw (w.low-is, w.first-is) (l.invariant, omega (arith, w.if-low-eq1.false), omega (arith, c.loop-low-test.true))
    ] in
    let high : IsSeen nodes c.args.leaf c.if-low-eq1.low c.if-high-eq1.high c.if-high-eq1.first × (c.if-high-eq1.high % 2 ≡ 0) = elim c.if-high-eq1.branch [
      | then-high-eq1 w ↦ rw (w.high-is, w.first-is) (seen-high nodes c.args.leaf c.if-low-eq1.low l.high c.if-low-eq1.first w.lesser-first-then-high-eq1.result low.0 (omega (arith, low.1, low.2, w.if-high-eq1.true)) w.lesser-first-then-high-eq1.ensures, omega (arith, w.if-high-eq1.true))
      | else-high-eq1 w ↦ rw (w.high-is, w.first-is) (low.0, omega (arith, w.if-high-eq1.false))
    ] in
    seen-up nodes c.args.leaf c.if-low-eq1.low c.if-high-eq1.high c.if-high-eq1.first c.requires.heap high.0 low.1 high.1
