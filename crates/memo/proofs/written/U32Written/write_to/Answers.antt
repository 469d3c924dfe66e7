use Rattle.std.specs.Hash.{le_bytes}
use Rattle.std.proofs.Common.{rules}
use Rattle.memo.proofs.written.U32Written.write_to.Goals as goal

pub returns : goal.returns
unfolding le_bytes
returns c = search rules
