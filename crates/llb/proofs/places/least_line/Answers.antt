use Rattle.llb.proofs.PlacesLaws.{least_is_first}
use Rattle.llb.proofs.places.least_line.Goals as goal

pub returns-in-len1-up : goal.returns-in-len1-up
returns-in-len1-up c = least_is_first c.args.lines.now c.in-len1-up.len_at_least c.requires
