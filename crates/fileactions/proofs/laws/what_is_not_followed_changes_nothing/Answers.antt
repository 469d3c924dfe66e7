use Rattle.fileactions.proofs.Needed.{value-same, wanted-same}
use Rattle.fileactions.proofs.laws.what_is_not_followed_changes_nothing.Goals as goal

pub returns : goal.returns
returns c = record {
  each = λ graph wanted out ones others are images same k is. value-same c.a_text_relates_by_grammar_and_cuts.ensures graph wanted out ones others are images same k is;
  resulting = λ graph wanted out ones others are images same. wanted-same c.a_text_relates_by_grammar_and_cuts.ensures graph wanted out ones others are images same;
}
