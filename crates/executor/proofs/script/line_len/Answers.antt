use Rattle.std.proofs.Common.{eq-eqb}
use Rattle.executor.specs.Script.{is_line_feed}
use Rattle.executor.proofs.CutLemmas.{position_or_len-here, position_or_len-nowhere}
use Rattle.executor.proofs.script.line_len.Goals as goal

pub returns-then-byte-eq10 : goal.returns-then-byte-eq10
returns-then-byte-eq10 c =
    position_or_len-here is_line_feed c.args.text.now _ c.loop-index-test.true c.loop-index.invariant (eq-eqb _ 10 c.if-byte-eq10.true)

pub returns : goal.returns
returns c =
    position_or_len-nowhere is_line_feed c.args.text.now _ c.loop-index-test.false c.loop-index.invariant
