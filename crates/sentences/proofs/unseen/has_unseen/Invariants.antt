use Rattle.std.proofs.Common.{◌≡◌}
use Rattle.std.specs.List.{list_any}
use Rattle.sentences.specs.Unseen.{is_unseen}
use Rattle.sentences.proofs.unseen.has_unseen.Given as goal

-- whether one of the characters so far can't be seen
abbrev pub invariant-loop-character : goal.invariant-loop-character
invariant-loop-character l = l.found ≡ list_any is_unseen l.yielded
