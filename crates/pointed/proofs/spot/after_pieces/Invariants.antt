use Rattle.std.proofs.Common.{◌≡◌}
use denote.Shadow.{shadow}
use denote.Text.{Utf8}
use Rattle.words.specs.Flag.{behind_pieces}
use Rattle.pointed.proofs.spot.after_pieces.Given as goal

-- the pieces that are left to pass are so many of the rest
abbrev pub invariant-pieces : goal.invariant-pieces
invariant-pieces l = record {
  utf8 : shadow (Utf8 l.rest);
  same : behind_pieces l.left l.rest ≡ behind_pieces l.fn.count l.fn.text;
}

abbrev pub decreases-pieces : goal.decreases-pieces
decreases-pieces l = l.left
