use Rattle.std.proofs.Common.{◌∙◌, ap, lit<}
use Rattle.std.proofs.lemmas.Iterator.Splits.{YieldsList-from_str_split}
use Rattle.std.proofs.lemmas.Iterator.Consumers.{YieldsList-end}
use Rattle.paths.specs.Reading.{cleaned, stepped}
use Rattle.globs.proofs.Texts.{cleaned-more}
use Rattle.globs.proofs.cutting.cut_components.Goals as goal

pub loop-piece-preserved : goal.loop-piece-preserved
loop-piece-preserved c =
    (tt, tt, c.in_ok-step.ensures ∙ ap (λ p. stepped p c.in-Some.piece.now) c.loop-piece.invariant.2 ∙ cleaned-more (λ text. text.now) c.loop-piece.yielded c.in-Some.piece)

pub returns : goal.returns
returns c =
    let ended = YieldsList-end (YieldsList-from_str_split 47 c.args.text.now (lit< tt) (cc) (cc) (cc)) c.loop-piece.yielded _ c.loop-piece.yielded_by _ _ c.in-None.is c.next.ensures.steps in
    c.loop-piece.invariant.2 ∙ ap (λ ps. cleaned ps) ended.0
