use Rattle.std.proofs.Common.{◌≡◌, ◌++◌, map, length}
use denote.Text.{Utf8}
use denote.Shadow.{shadow}
use Rattle.ascii.specs.Blanks.{after_blanks}
use Rattle.ascii.specs.Pieces.{pieces}
use Rattle.ascii.proofs.pieces.split_at_blanks.Given as goal

-- the rest begins with no blank, and has the pieces that aren't found yet
abbrev pub invariant-loop-rest : goal.invariant-loop-rest
invariant-loop-rest l = record {
  utf8 : shadow (Utf8 l.rest);
  trimmed : after_blanks l.rest ≡ l.rest;
  found : map (λ piece. piece.now) l.found.items ++ pieces l.rest ≡ pieces l.text;
}

abbrev pub decreases-loop-rest : goal.decreases-loop-rest
decreases-loop-rest l = length l.rest
