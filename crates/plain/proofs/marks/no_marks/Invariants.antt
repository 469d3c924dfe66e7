use Rattle.std.proofs.Common.{◌≡◌, ℕ, false, length}
use Rattle.plain.specs.Marks.{is_marked}
use Rattle.plain.proofs.marks.no_marks.Given as goal

abbrev pub invariant-loop-at : goal.invariant-loop-at
invariant-loop-at l = record {
  long : length l.marks.items ≡ l._at;
  none : (k : ℕ) → is_marked l.marks.items k ≡ false;
}
