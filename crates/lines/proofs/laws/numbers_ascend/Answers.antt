use Rattle.plain.specs.Limits.{most_line_number}
use Rattle.std.proofs.Common.{arith}
use Rattle.lines.proofs.NumberLemmas.{lines_numbered, numbered_at, numbers_ascend}
use Rattle.lines.proofs.laws.numbers_ascend.Goals as goal

pub returns-clause-within : goal.returns-clause-within
returns-clause-within c text found h k line e =
    let at = numbered_at 0 found most_line_number (lines_numbered text found h) k line e in
    (omega (arith, at.0), at.1)

pub returns-clause-ascend : goal.returns-clause-ascend
returns-clause-ascend c text found h j k line other e f l =
    numbers_ascend 0 found most_line_number (lines_numbered text found h) j k line other e f l
