use Rattle.counted.proofs.GatheringFacts.{says_both}
use Rattle.quoted.proofs.quoting.put_quoted.Goals as goal

pub returns-clause-says : goal.returns-clause-says
returns-clause-says g c = says_both c.gather.ensures.says (says_both c.put_text.ensures.says c.gather-2.ensures.says)
