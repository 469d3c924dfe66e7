use Rattle.std.proofs.Common.{arith}
use Rattle.words.specs.Pairs.{label_pair}
use Rattle.instructions.proofs.CutLemmas.{cut_more}
use Rattle.instructions.proofs.label.label_pairs_among.Goals as goal

pub loop-word-preserved : goal.loop-word-preserved
loop-word-preserved c = cut_more (label_pair c.args.escape) c.loop-word.pairs.items c.push.new.self.items c.in-Some.pair c.args.words.now c.loop-word.word-index _ (omega arith) c.in_ok-push-in-Some.ensures.items c.in-Some.ensures _ c.loop-word.invariant
