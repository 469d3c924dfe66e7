use Rattle.std.proofs.Common.{rules}
use Rattle.llb.specs.Hash.{hash_of}
use Rattle.llb.proofs.hash.hash_of.Goals as goal

pub returns : goal.returns
unfolding hash_of
returns c = search rules
