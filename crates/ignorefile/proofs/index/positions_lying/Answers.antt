use Rattle.std.proofs.Common.{◌∙◌}
use Rattle.ignorefile.proofs.Deciding.{lying-last}
use Rattle.ignorefile.proofs.index.positions_lying.Goals as goal

pub returns-in-len1-up : goal.returns-in-len1-up
returns-in-len1-up c = c.positions_under.ensures.value ∙ lying-last c.args.by_folder.now.entries c.args.folder.now c.name-item.result c.in-len1-up.len_at_least c.name-item.is
