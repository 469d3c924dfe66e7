use Rattle.counted.proofs.GatheringFacts.{says_both}
use Rattle.entries.proofs.printing.put_name.Goals as goal

pub returns-clause-says : goal.returns-clause-says
returns-clause-says g c = says_both c.gather.ensures.says c.put_text.ensures.says
