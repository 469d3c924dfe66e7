use Rattle.std.proofs.Common.{◌≡◌, ◌≤◌, ℕ, take, get_or, length}
use Rattle.ignorefile.specs.PrivateRanks.{IsDecided}
use Rattle.ignorefile.proofs.index.Index.hand_down.Given as goal

abbrev pub invariant-loop-depth : goal.invariant-loop-depth
invariant-loop-depth l = ((i : ℕ) → i ≤ l.depth → IsDecided l.lines (take i l.names) (get_or l.decided i 0)) × (length l.decided ≡ 65)
