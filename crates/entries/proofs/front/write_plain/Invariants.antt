use Rattle.std.proofs.Common.{◌≡◌, ◌+◌, ◌++◌, true, length, take}
use Rattle.std.specs.List.{list_all}
use Rattle.quoted.specs.Plain.{is_plain}
use Rattle.entries.proofs.front.write_plain.Given as goal

-- so many bytes stand for themselves, and are written
abbrev pub invariant-loop-i : goal.invariant-loop-i
invariant-loop-i l = record {
  long : length l.text ≡ length l.fn.text;
  plain : list_all is_plain (take l.i l.bytes) ≡ true;
  whole : take (l.at + l.i) l.text ≡ take l.at l.fn.text ++ take l.i l.bytes;
  before : take l.at l.text ≡ take l.at l.fn.text;
}
