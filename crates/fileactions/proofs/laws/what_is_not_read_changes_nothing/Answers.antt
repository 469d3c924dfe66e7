use Rattle.fileactions.proofs.Alike.{same-result}
use Rattle.fileactions.proofs.laws.what_is_not_read_changes_nothing.Goals as goal

pub returns : goal.returns
returns c = same-result
