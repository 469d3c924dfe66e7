use Rattle.runs.proofs.RunLaws.{mounts_fit-means, ids_differ-means}
use Rattle.runs.proofs.laws.mounts_are_tested_in_pairs.Goals as goal

pub returns : goal.returns
returns c = record { targets = mounts_fit-means; ids = ids_differ-means }
