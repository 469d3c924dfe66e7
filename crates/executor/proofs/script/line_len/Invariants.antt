use Rattle.std.proofs.Common.{◌≡◌, ◌<◌, ℕ, false, get_or}
use Rattle.executor.specs.Script.{is_line_feed}
use Rattle.executor.proofs.script.line_len.Given as goal

abbrev pub invariant-loop-index : goal.invariant-loop-index
invariant-loop-index l = (k : ℕ) → k < l.index → is_line_feed (get_or l.text k 0) ≡ false
