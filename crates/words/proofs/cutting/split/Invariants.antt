use Rattle.std.proofs.Common.{take, drop, ◌≡◌, ◌≤◌, ◌++◌, map}
use Rattle.std.specs.Prelude.{IsCharBoundary}
use Rattle.words.specs.Cutting.{words}
use Rattle.words.proofs.WordLemmas.{words_from}
use Rattle.words.proofs.cutting.split.Given as goal

abbrev pub invariant-loop-index : goal.invariant-loop-index
invariant-loop-index l = record {
  behind : l.start ≤ l.index;
  cut : IsCharBoundary l.text l.start;
  found : map (λ word. word.now) l.found.items ++ words_from l.escape l.state (drop l.start (take l.index l.text)) (drop l.index l.text) ≡ words l.escape l.text;
}
