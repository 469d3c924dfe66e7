use Rattle.std.proofs.Common.{◌∙◌, refl, arith}
use Rattle.std.proofs.lemmas.Str.{IsCharBoundary-start, IsCharBoundary-after_ascii}
use Rattle.lines.proofs.BlankLemmas.{after_tabs-step}
use Rattle.lines.proofs.blanks.after_tabs.Goals as goal

pub loop-at-init : goal.loop-at-init
loop-at-init c = record { cut = IsCharBoundary-start _ c.as_bytes-bytes.ensures.utf8; same = refl }

pub loop-at-preserved : goal.loop-at-preserved
loop-at-preserved c = record {
  cut = IsCharBoundary-after_ascii _ _ c.as_bytes-bytes.ensures.utf8 (omega arith) (omega arith);
  same = after_tabs-step _ c.loop-at.at (omega arith) (omega arith) ∙ c.loop-at.invariant.same;
}
