use Rattle.fileactions.proofs.Gives.{copy-gives}
use Rattle.fileactions.proofs.laws.a_copy_gives_its_tree.Goals as goal

pub returns : goal.returns
returns c = copy-gives c.a_text_relates_by_grammar_and_cuts.ensures
