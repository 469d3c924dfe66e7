use Rattle.std.proofs.Common.{◌≡◌, drop}
use Rattle.std.specs.List.{list_all}
use Rattle.ascii.specs.Names.{is_letter}
use Rattle.meant.proofs.first_word.are_letters.Given as goal

-- the bytes that are left decide
abbrev pub invariant-loop-byte : goal.invariant-loop-byte
invariant-loop-byte l = list_all is_letter (drop l.byte-index l.word) ≡ list_all is_letter l.word
