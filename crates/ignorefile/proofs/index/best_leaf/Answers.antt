use Rattle.std.proofs.Common.{arith, length, ◌≡◌}
use Rattle.std.proofs.lemmas.List.{length-map}
use Rattle.ignorefile.specs.PrivateLeft.{positions_in}
use Rattle.ignorefile.proofs.Lines.{best-none, best-low, best-here, missed-more, position-within}
use Rattle.ignorefile.proofs.Leaves.{next-known, next-less, next-position}
use Rattle.ignorefile.proofs.index.best_leaf.Goals as goal

pub returns-then-leaf-before : goal.returns-then-leaf-before
returns-then-leaf-before c =
    best-low c.args.lines.now (positions_in c.args.leaves.now) c.args.names.now c.args.before c.loop-passed.passed c.requires.order c.loop-passed.invariant _
    (next-less c.args.lines.now c.args.leaves.now c.loop-passed.passed c.loop-passed-test.true) (next-position c.args.lines.now c.args.leaves.now c.loop-passed.passed c.loop-passed-test.true) c.if-leaf-before.true

pub raised_by-rank-requires-clause-within : goal.raised_by-rank-requires-clause-within
raised_by-rank-requires-clause-within c =
    position-within c.args.lines.now (positions_in c.args.leaves.now) c.args.names.now c.args.before c.loop-passed.passed c.requires.order c.loop-passed.invariant _
    (next-less c.args.lines.now c.args.leaves.now c.loop-passed.passed c.loop-passed-test.true) (next-position c.args.lines.now c.args.leaves.now c.loop-passed.passed c.loop-passed-test.true)

pub raised_by-rank-requires-clause-known : goal.raised_by-rank-requires-clause-known
raised_by-rank-requires-clause-known c = next-known c.args.lines.now c.args.leaves.now c.loop-passed.passed c.loop-passed-test.true c.requires.known

pub returns-then-rank-before : goal.returns-then-rank-before
returns-then-rank-before c =
    best-here c.args.lines.now (positions_in c.args.leaves.now) c.args.names.now c.args.before c.loop-passed.passed c.requires.order c.loop-passed.invariant _
    (next-less c.args.lines.now c.args.leaves.now c.loop-passed.passed c.loop-passed-test.true) (next-position c.args.lines.now c.args.leaves.now c.loop-passed.passed c.loop-passed-test.true) _ c.raised_by-rank.ensures c.if-rank-before.true

pub loop-passed-preserved : goal.loop-passed-preserved
loop-passed-preserved c =
    missed-more c.args.lines.now (positions_in c.args.leaves.now) c.args.names.now c.args.before c.loop-passed.passed c.requires.order c.loop-passed.invariant _
    (next-less c.args.lines.now c.args.leaves.now c.loop-passed.passed c.loop-passed-test.true) (next-position c.args.lines.now c.args.leaves.now c.loop-passed.passed c.loop-passed-test.true) _ c.raised_by-rank.ensures
    (let h = c.if-leaf-before.false in omega arith) (let h = c.if-rank-before.false in omega arith)

pub returns : goal.returns
returns c =
    best-none c.args.lines.now (positions_in c.args.leaves.now) c.args.names.now c.args.before c.loop-passed.passed c.requires.order c.loop-passed.invariant
    (let all : length (positions_in c.args.leaves.now) ≡ length c.args.leaves.now = length-map c.args.leaves.now (λ leaf. leaf.position) in let h = c.loop-passed-test.false in omega arith)
