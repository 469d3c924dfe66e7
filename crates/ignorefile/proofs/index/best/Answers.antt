use Rattle.std.proofs.Common.{refl, arith}
use Rattle.ignorefile.proofs.Lines.{best-none, best-low, best-here, missed-more, position-within}
use Rattle.ignorefile.proofs.index.best.Goals as goal

pub returns-then-position-above : goal.returns-then-position-above
returns-then-position-above c =
    best-low c.args.lines.now c.args.positions.now c.args.names.now c.args.above c.loop-passed.passed c.requires c.loop-passed.invariant _ c.loop-passed-test.true refl c.if-position-above.true

pub raised-rank-requires-clause-within : goal.raised-rank-requires-clause-within
raised-rank-requires-clause-within c =
    position-within c.args.lines.now c.args.positions.now c.args.names.now c.args.above c.loop-passed.passed c.requires c.loop-passed.invariant _ c.loop-passed-test.true refl

pub returns-then-rank-above : goal.returns-then-rank-above
returns-then-rank-above c =
    best-here c.args.lines.now c.args.positions.now c.args.names.now c.args.above c.loop-passed.passed c.requires c.loop-passed.invariant _ c.loop-passed-test.true refl _ c.raised-rank.ensures c.if-rank-above.true

pub loop-passed-preserved : goal.loop-passed-preserved
loop-passed-preserved c =
    missed-more c.args.lines.now c.args.positions.now c.args.names.now c.args.above c.loop-passed.passed c.requires c.loop-passed.invariant _ c.loop-passed-test.true refl _ c.raised-rank.ensures
    (let h = c.if-position-above.false in omega arith) (let h = c.if-rank-above.false in omega arith)

pub returns : goal.returns
returns c = best-none c.args.lines.now c.args.positions.now c.args.names.now c.args.above c.loop-passed.passed c.requires c.loop-passed.invariant c.loop-passed-test.false
