use Rattle.std.proofs.Common.{◌≡◌, string_bytes}
use Rattle.std.specs.List.{flat_map}
use Rattle.checks.specs.Mark.{blank_under}
use Rattle.checks.proofs.mark.blanks_under.Given as goal

-- what stands under the characters so far
abbrev pub invariant-loop-character : goal.invariant-loop-character
invariant-loop-character l = string_bytes l.mark ≡ flat_map blank_under l.yielded
