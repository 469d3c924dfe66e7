use Rattle.std.proofs.Common.{◌≡◌, drop, map}
use Rattle.options.specs.Lists.{all_some}
use Rattle.options.proofs.ListLaws.{behind}
use Rattle.imageconfig.specs.Reading.{cut_row}
use Rattle.imageconfig.proofs.reading.cut_rows.Given as goal

-- what is read with what is left is all
abbrev pub invariant-loop-text : goal.invariant-loop-text
invariant-loop-text l = behind l.rows (all_some (map cut_row (drop l.text-index l.texts))) ≡ all_some (map cut_row l.texts)
