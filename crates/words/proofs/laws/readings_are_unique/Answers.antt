use Rattle.words.proofs.PartLaws.{words-only, words-at, IsOpen-is, IsOpen-from, label_pair-only, label_pair-at}
use Rattle.words.proofs.laws.readings_are_unique.Goals as goal

pub returns : goal.returns
returns c = record {
  words = λ e text found. (words-only e text found, words-at e text found);
  quotes = λ e text. (IsOpen-is e text, IsOpen-from e text);
  cuts = λ e word cut. (label_pair-only e word cut, label_pair-at e word cut);
}
