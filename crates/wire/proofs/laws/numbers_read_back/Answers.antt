use Rattle.wire.proofs.VarintLemmas.{varint-back}
use Rattle.wire.proofs.laws.numbers_read_back.Goals as goal

pub returns : goal.returns
returns c = varint-back
