use Rattle.std.proofs.Common.{◌≡◌, ◌∙◌, Bool, List, false, refl, sym, arith}
use Rattle.std.specs.Prelude.{slice_index_or}
use Rattle.std.proofs.lemmas.Option.{slice_get_read}
use Rattle.rewrite.proofs.DifferFacts.{IsNoted, noted_merge, noted_unmarked, noted_other, differ_next, all_differ}
use Rattle.rewrite.proofs.links.do_lasts_differ.Goals as goal
use Rattle.rewrite.proofs.links.do_lasts_differ.Goals.{then-marks-at+then-is_merge+else-not-mark_last, else-marks-at, else-marks-at-via-then-marks-at+else-is_merge}
use Rattle.rewrite.proofs.links.do_lasts_differ.Goals.{else-marks-at-via-else-marks-at}

pub loop-at-preserved : goal.loop-at-preserved
loop-at-preserved c =
    let there = slice_get_read c.args.vertices.now _ c.loop-at.at c.index-vertices-at.result refl c.loop-at-test.true c.index-vertices-at.is in
    let old : List Bool = c.loop-at.lasts.items in
    let new : List Bool = c.if-marks-at.lasts.items in
    let vertex = c.index-vertices-at.result in
    let mark : Bool = slice_index_or c.args.marks.now c.loop-at.at false in
    let noted : IsNoted old new vertex mark = elim c.if-marks-at.branch [
      | then-marks-at+then-is_merge+else-not-mark_last w ↦
          let same : new ≡ w.mark_last.new.marks.items = cc in
          noted_merge old _ new vertex mark w.as_slice.result.now same w.as_slice.ensures (w.mark_last.ensures w.if-not-mark_last.false)
      | else-marks-at w ↦
          let same : new ≡ old = cc in
          elim w.else-marks-at.branch [
            | else-marks-at-via-then-marks-at+else-is_merge o ↦ noted_other old new vertex mark same (sym o.is_merge.ensures ∙ o.if-is_merge.false)
            | else-marks-at-via-else-marks-at o ↦ noted_unmarked old new vertex mark same o.if-marks-at.false
          ]
    ] in
    differ_next c.args.vertices.now c.args.marks.now old new c.loop-at.at vertex c.loop-at.invariant there noted

pub returns : goal.returns
returns c = λ yes. all_differ c.args.vertices.now c.args.marks.now c.loop-at.lasts.items c.loop-at.at (omega (arith, c.loop-at-test.false)) c.loop-at.invariant
