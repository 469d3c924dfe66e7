use Rattle.std.proofs.Common.{◌∙◌, ap, sym}
use Rattle.stages.specs.Naming.{names_in}
use Rattle.build.specs.Lowered.{lacking_line}
use Rattle.build.proofs.LoweredFacts.{known_all}
use Rattle.build.proofs.lowered.target_table.Goals as goal

pub returns-in-None-clause-known : goal.returns-in-None-clause-known
returns-in-None-clause-known c =
    let known = names_in c.args.images.now in
    known_all known c.in-Ok.table.stages (sym (c.lacking_line.ensures ∙ ap (lacking_line known) c.stages.ensures.stages) ∙ c.in-None.is)
