use Rattle.std.proofs.Common.{◌≤◌, ◌-◌, ℕ, take, get_or, length}
use Rattle.ignorefile.specs.PrivateRanks.{IsDecided}
use Rattle.ignorefile.specs.PrivateLeft.{IsLeft}
use Rattle.ignorefile.proofs.Handing.{Flags}
use Rattle.ignorefile.proofs.ignore.Ignore.kept.Given as goal

abbrev pub invariant-loop-row : goal.invariant-loop-row
invariant-loop-row g l = record {
  handed : (i : ℕ) → i ≤ length l.last → IsDecided l.lines (take i l.last) (get_or l.decided i 0);
  few : length l.last ≤ 64;
  flags : Flags l.self (take l.row-index l.rows) l.flags.items;
  left : IsLeft l.lines l.index (take (length l.last - 1) l.last) l.left;
}
