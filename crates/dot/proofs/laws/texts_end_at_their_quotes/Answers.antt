use Rattle.dot.proofs.QuoteLaws.{text_ends, label_ends}
use Rattle.dot.proofs.laws.texts_end_at_their_quotes.Goals as goal

pub returns : goal.returns
returns c = record { texts = text_ends; labels = label_ends }
