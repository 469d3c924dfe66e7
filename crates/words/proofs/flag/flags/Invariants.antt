use Rattle.std.proofs.Common.{◌≡◌, ◌++◌, length}
use Rattle.ascii.specs.Blanks.{after_blanks}
use Rattle.words.specs.Flag.{flags, behind_flags}
use Rattle.words.proofs.flag.flags.Given as goal
use denote.Shadow.{shadow}
use denote.Text.{Utf8}

abbrev pub invariant-loop-alloc : goal.invariant-loop-alloc
invariant-loop-alloc l = record {
  text : shadow (Utf8 l.rest);
  begins : after_blanks l.rest ≡ l.rest;
  found : l.found ++ flags l.rest ≡ flags l.fn.text;
  left : behind_flags l.rest ≡ behind_flags l.fn.text;
}

abbrev pub decreases-loop-alloc : goal.decreases-loop-alloc
decreases-loop-alloc l = length l.rest
