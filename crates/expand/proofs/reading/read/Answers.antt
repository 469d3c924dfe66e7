use Rattle.std.proofs.Common.{arith}
use Rattle.expand.proofs.ReadLemmas.{made_first, read_more}
use Rattle.expand.proofs.reading.read.Goals as goal

pub loop-character-init : goal.loop-character-init
loop-character-init c = made_first _ _ _ c.args.characters.now c.new-output.ensures c.new-reading.ensures.depth c.new-reading.ensures.begun

pub loop-character-preserved : goal.loop-character-preserved
loop-character-preserved c =
    read_more _ _ _ _ c.args.characters.now c.loop-character.character-index _ _ c.in_ok-next.field-0 c.in-Some.next c.in-Some.is (omega arith) c.in_ok-next.ensures c.loop-character.invariant
