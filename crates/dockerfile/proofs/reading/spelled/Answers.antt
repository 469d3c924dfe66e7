use Rattle.std.proofs.Common.{◌≡◌, ◌<◌, ◌+◌, ℕ, List, ◌∷◌, drop, length, get_or, ap, sym, ◌∙◌}
use Rattle.std.proofs.lemmas.List.{drop_more}
use Rattle.lines.specs.declared.line.Line.{Line}
use Rattle.dockerfile.proofs.DockerfileFacts.{lines_step, lines_told}
use Rattle.dockerfile.proofs.reading.spelled.Goals as goal

-- the lines from one on
from : (lines : List Line) (i : ℕ) (line : Line) → i < length lines → line ≡ get_or lines i line → drop i lines ≡ line ∷ drop (i + 1) lines
from lines i line within is = drop_more lines i line within ∙ ap (λ first. first ∷ drop (i + 1) lines) (sym is)

pub loop-line-preserved : goal.loop-line-preserved
loop-line-preserved c =
    lines_step c.args.lines.now _ _ c.line-item.result _ _ c.in-Ok.instruction c.loop-line.invariant
    (from c.args.lines.now c.loop-line.line-index c.line-item.result c.loop-line-test.true c.line-item.is) c.in-Ok.ensures c.in_ok-push-in-Ok.ensures.ok

pub returns-in-Err : goal.returns-in-Err
returns-in-Err c =
    lines_told c.args.lines.now _ _ c.line-item.result _ c.in-Err.fault c.loop-line.invariant
    (from c.args.lines.now c.loop-line.line-index c.line-item.result c.loop-line-test.true c.line-item.is) c.in-Err.ensures
