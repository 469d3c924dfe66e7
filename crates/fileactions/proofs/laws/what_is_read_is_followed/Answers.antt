use Rattle.fileactions.proofs.Followed.{read-covers, result-covers}
use Rattle.fileactions.proofs.laws.what_is_read_is_followed.Goals as goal

pub returns : goal.returns
returns c = record { read = read-covers c.a_text_relates_by_grammar_and_cuts.ensures; resulting = result-covers }
