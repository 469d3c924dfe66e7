use Rattle.std.proofs.Common.{take}
use Rattle.borrowed.proofs.FewDigits.{AreRead}
use Rattle.borrowed.proofs.numbers.read_few_digits.Given as goal

-- the digits before are read
abbrev pub invariant-loop-byte : goal.invariant-loop-byte
invariant-loop-byte l = AreRead (take l.byte-index l.text) l.whole
