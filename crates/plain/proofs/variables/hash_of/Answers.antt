use Rattle.std.proofs.Common.{rules}
use Rattle.plain.specs.Hash.{variables_hash}
use Rattle.plain.proofs.variables.hash_of.Goals as goal

pub returns : goal.returns
unfolding variables_hash
returns c = search rules
