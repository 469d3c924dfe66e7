use Rattle.std.proofs.Common.{◌∙◌, sym}
use Rattle.trees.proofs.SeenSteps.{none-seen}
use Rattle.trees.proofs.lent_kids.LentKids.is_none.Goals as goal

pub returns : goal.returns
returns c =
    let none = none-seen c.self.inside.options c.self.inside.kids.now in
    (λ h. sym c.self.view_is ∙ none.0 (c.is_none.ensures.0 h), λ h. c.is_none.ensures.1 (none.1 (c.self.view_is ∙ h)))
