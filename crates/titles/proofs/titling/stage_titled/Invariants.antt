use Rattle.std.proofs.Common.{◌≡◌, ◌≤◌, ◌+◌, drop}
use Rattle.titles.specs.Titles.{steps_titled, stage_titled}
use Rattle.titles.proofs.titling.stage_titled.Given as goal

abbrev pub invariant-loop-resolved : goal.invariant-loop-resolved
invariant-loop-resolved l = record {
  few : l.number ≤ l.resolved-index + 1;
  all : steps_titled l.lines l.called l.total l.number (drop l.resolved-index l.instructions) l.titles ≡ stage_titled l.lines l.called l.stage l.fn.titles;
}
