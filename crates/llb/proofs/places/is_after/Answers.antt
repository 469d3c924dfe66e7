use Rattle.std.proofs.lemmas.Bool.{ltb-true}
use Rattle.llb.proofs.PlacesLaws.{with_line-after}
use Rattle.llb.proofs.places.is_after.Goals as goal

pub returns-in-len1-up : goal.returns-in-len1-up
returns-in-len1-up c = λ is_less. with_line-after c.args.line c.args.lines.now c.in-len1-up.len_at_least c.requires (ltb-true _ _ is_less)
