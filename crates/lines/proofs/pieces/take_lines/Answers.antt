use Rattle.std.proofs.Common.{arith}
use Rattle.lines.specs.PrivateScan.{state_at}
use Rattle.lines.proofs.PieceLaws.{at_lf, at_end}
use Rattle.lines.proofs.pieces.take_lines.Goals as goal

pub take_ended-requires-clause-known : goal.take_ended-requires-clause-known
take_ended-requires-clause-known c =
    let p = c.args.progress in
    let from = state_at p.place p.room in (
      from,
      p.is_first,
      c.requires.size,
      at_lf from p.is_first c.args.kept.now c.loop-end.scan c.args.bytes.now c.loop-end.at c.loop-end.from c.loop-end.invariant.reached c.in-Some.end c.in-Some.ensures,
    )

pub loop-end-preserved : goal.loop-end-preserved
loop-end-preserved c =
    let p = c.args.progress in
    let from = state_at p.place p.room in
    let low = c.in-Some.ensures.1 in
    record {
      reached = c.in-Ok.ensures.ok from p.is_first
          (at_lf from p.is_first c.args.kept.now c.loop-end.scan c.args.bytes.now c.loop-end.at c.loop-end.from c.loop-end.invariant.reached c.in-Some.end c.in-Some.ensures);
      within = omega arith;
    }

pub returns-in-Err-clause-err : goal.returns-in-Err-clause-err
returns-in-Err-clause-err c =
    let p = c.args.progress in
    let from = state_at p.place p.room in
    c.in-Err.ensures.err from p.is_first
    (at_lf from p.is_first c.args.kept.now c.loop-end.scan c.args.bytes.now c.loop-end.at c.loop-end.from c.loop-end.invariant.reached c.in-Some.end c.in-Some.ensures)

pub returns-clause-ok : goal.returns-clause-ok
returns-clause-ok c =
    let p = c.args.progress in
    at_end (state_at p.place p.room) p.is_first c.args.kept.now c.loop-end.scan c.args.bytes.now c.loop-end.at c.loop-end.from c.loop-end.invariant.reached c.loop-end.invariant.within
    c.in_default.ensures
