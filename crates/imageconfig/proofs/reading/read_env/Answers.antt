use Rattle.imageconfig.proofs.NameFacts.{cut_all}
use Rattle.imageconfig.proofs.reading.read_env.Goals as goal

pub once-requires : goal.once-requires
once-requires g c = cut_all c.as_slice.result.now c.in_ok-rows.rows c.in_ok-rows.ensures
