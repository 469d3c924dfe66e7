use Rattle.counted.proofs.GatheringFacts.{says_both, says_as}
use Rattle.trees.specs.Rows.{lent_names}
use Rattle.entries.proofs.HeldFacts.{end-parts}
use Rattle.entries.proofs.printing.put_end.Goals as goal

pub returns-clause-says : goal.returns-clause-says
returns-clause-says g c =
    says_as (says_both c.gather_piece.ensures.says (says_both c.put_names_behind.ensures.says c.gather_piece-2.ensures.says))
    (end-parts (lent_names c.args.names.now) c.args.front.now c.args.meta c.behind_mode.result.mode c.behind_mode.result.size c.names.result c.behind_mode.result.text.now
    c.requires.held c.behind_mode.ensures.mode c.behind_mode.ensures.text c.behind_mode.ensures.size c.names.ensures)
