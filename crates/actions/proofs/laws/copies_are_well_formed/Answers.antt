use Rattle.actions.proofs.ActionLaws.{copy_is_action}
use Rattle.actions.proofs.laws.copies_are_well_formed.Goals as goal

pub returns : goal.returns
returns c = copy_is_action
