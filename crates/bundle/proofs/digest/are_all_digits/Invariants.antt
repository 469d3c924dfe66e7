use Rattle.std.proofs.Common.{◌≡◌, drop}
use Rattle.std.specs.List.{list_all}
use Rattle.bundle.specs.Digest.{is_digit}
use Rattle.bundle.proofs.digest.are_all_digits.Given as goal

-- the bytes that are left decide
abbrev pub invariant-loop-byte : goal.invariant-loop-byte
invariant-loop-byte l = list_all is_digit l.bytes ≡ list_all is_digit (drop l.byte-index l.bytes)
