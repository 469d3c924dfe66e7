use Rattle.std.proofs.Common.{◌≡◌, true, take}
use Rattle.std.specs.List.{list_all}
use Rattle.quoted.specs.Plain.{is_plain}
use Rattle.quoted.proofs.quoting.plain_front.Given as goal

-- so many bytes stand for themselves
abbrev pub invariant-loop-i : goal.invariant-loop-i
invariant-loop-i l = list_all is_plain (take l.i l.bytes) ≡ true
