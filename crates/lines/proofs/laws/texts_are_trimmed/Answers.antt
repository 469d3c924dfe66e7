use Rattle.plain.specs.Limits.{most_line_number}
use Rattle.lines.proofs.NumberLemmas.{lines_numbered, numbered_at}
use Rattle.lines.proofs.laws.texts_are_trimmed.Goals as goal

pub returns : goal.returns
returns c text found h k line e =
    let at = numbered_at 0 found most_line_number (lines_numbered text found h) k line e in
    (at.2, at.3)
