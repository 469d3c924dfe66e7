use Rattle.imageconfig.specs.Writing.{config_data}
use Rattle.counted.proofs.GatheringFacts.{says_both, says_as}
use Rattle.answering.proofs.TextFacts.{built-text}
use Rattle.answering.proofs.built.put_built.Goals as goal

pub returns-clause-says : goal.returns-clause-says
returns-clause-says g c =
    says_as
    (says_both c.gather.ensures.says (says_both c.put_config.ensures.says (says_both c.gather-2.ensures.says (says_both c.put_tree.ensures.says c.gather-3.ensures.says))))
    (built-text (config_data c.args.config.now) c.args.unsaid)
