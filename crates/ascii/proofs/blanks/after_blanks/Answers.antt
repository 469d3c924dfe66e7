use Rattle.std.proofs.Common.{sym, ◌∙◌, refl, arith}
use Rattle.std.proofs.lemmas.Str.{IsCharBoundary-start, IsCharBoundary-after_ascii}
use Rattle.ascii.proofs.BlankLaws.{blank_is_ascii, after_blanks-step}
use Rattle.ascii.proofs.blanks.after_blanks.Goals as goal

pub loop-at-init : goal.loop-at-init
loop-at-init c = record { cut = IsCharBoundary-start _ c.as_bytes-bytes.ensures.utf8; same = refl }

pub loop-at-preserved : goal.loop-at-preserved
loop-at-preserved c = record {
  cut = IsCharBoundary-after_ascii _ _ c.as_bytes-bytes.ensures.utf8 (omega arith) (blank_is_ascii _ (sym c.if-is_blank.ensures));
  same = after_blanks-step _ c.loop-at.at (omega arith) (sym c.if-is_blank.ensures) ∙ c.loop-at.invariant.same;
}
