use Rattle.std.proofs.Common.{◌∷◌, false, ap, ◌∙◌}
use Rattle.counted.proofs.GatheringFacts.{says_both, says_as}
use Rattle.entries.specs.PrivatePrinting.{rest_text}
use Rattle.entries.proofs.PrintingFacts.{rows-are}
use Rattle.entries.proofs.together.put_tree.Goals as goal

pub returns-in-Ok-Some-clause-says : goal.returns-in-Ok-Some-clause-says
returns-in-Ok-Some-clause-says g c =
    says_as (says_both c.gather.ensures.says c.put_shares.ensures.says)
    (ap (λ t. 91 ∷ t) (ap (rest_text false) (c.into_parts-walk.ensures.walk ∙ c.into_parts-walk.ensures.tree) ∙ rows-are false c.args.unsaid))

pub returns-in_default-clause-says : goal.returns-in_default-clause-says
returns-in_default-clause-says g c =
    says_as (says_both c.gather.ensures.says c.put_rest.ensures.says)
    (ap (λ t. 91 ∷ t) (ap (rest_text false) (c.into_parts-walk.ensures.walk ∙ c.into_parts-walk.ensures.tree) ∙ rows-are false c.args.unsaid))
