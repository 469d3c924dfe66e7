use Rattle.std.proofs.Common.{eq-eqb}
use Rattle.paths.proofs.CutLaws.{piece_len-here, piece_len-nowhere}
use Rattle.paths.proofs.pieces.piece_len.Goals as goal

pub returns-then-byte-eq47 : goal.returns-then-byte-eq47
returns-then-byte-eq47 c =
    piece_len-here c.args.text.now _ c.loop-index-test.true c.loop-index.invariant (eq-eqb _ 47 c.if-byte-eq47.true)

pub returns : goal.returns
returns c = piece_len-nowhere c.args.text.now _ c.loop-index-test.false c.loop-index.invariant
