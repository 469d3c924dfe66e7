use Rattle.std.proofs.Common.{ap, ◌∙◌, rules}
use Rattle.std.proofs.lemmas.Iterator.Consumers.{YieldsList-end}
use Rattle.std.proofs.lemmas.Iterator.Splits.{YieldsList-from_lines}
use Rattle.lines.specs.PrivateSteps.{after_lines}
use Rattle.lines.specs.PrivateScan.{state_at}
use Rattle.lines.proofs.ReadLaws.{read_one_more, count_one_more}
use Rattle.lines.proofs.blocks.read_block.Goals as goal

pub loop-line-preserved : goal.loop-line-preserved
loop-line-preserved c = record {
  goes = tt;
  ends = tt;
  read = read_one_more (state_at c.args.progress.place c.args.progress.room) c.loop-line.state c.in_ok-state.state c.loop-line.yielded c.in-Some.line c.loop-line.invariant.read c.in_ok-state.ensures;
  count = count_one_more c.args.progress.place.count c.loop-line.state c.in_ok-state.state c.loop-line.yielded c.in-Some.line c.loop-line.invariant.count c.in_ok-state.ensures;
}

pub returns : goal.returns
returns c =
    let all = YieldsList-end (YieldsList-from_lines c.block_text-text.result.now (search rules)) c.loop-line.yielded _ c.loop-line.yielded_by _ _ c.in-None.is c.next.ensures.steps in
    c.loop-line.invariant.read ∙ ap (after_lines (state_at c.args.progress.place c.args.progress.room)) (all.0 ∙ c.block_text-text.ensures.lines)
