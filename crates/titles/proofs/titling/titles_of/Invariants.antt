use Rattle.std.proofs.Common.{◌≡◌, length, drop}
use Rattle.titles.specs.Titles.{stages_titled, titles_of}
use Rattle.titles.proofs.titling.titles_of.Given as goal

abbrev pub invariant-loop-number : goal.invariant-loop-number
invariant-loop-number l = stages_titled l.lines l.names (length l.stages) l.number (drop l.number l.stages) l.titles ≡ titles_of l.lines l.names l.stages
