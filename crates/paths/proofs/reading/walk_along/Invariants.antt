use Rattle.std.proofs.Common.{length}
use denote.Text.{Utf8}
use denote.Shadow.{shadow}
use Rattle.paths.proofs.WalkLaws.{LeadsOn}
use Rattle.paths.proofs.reading.walk_along.Given as goal

-- from where the walk is, the rest leads to where the text leads
abbrev pub invariant-loop-piece : goal.invariant-loop-piece
invariant-loop-piece l =
    shadow (Utf8 l.rest)
    × LeadsOn l.walk.kept.items l.walk.beyond l.rest l.start l.text

abbrev pub decreases-loop-piece : goal.decreases-loop-piece
decreases-loop-piece l = length l.rest
