use Rattle.std.proofs.Common.{◌∙◌, sym, ◌∷◌, arith}
use Rattle.std.specs.Str.Lines.{lines}
use Rattle.reasons.proofs.Cuts.{cut-at, cut-none, behind-at, shorter-at}
use Rattle.reasons.proofs.cutting.first_line.Goals as goal

pub returns-then-byte-eq10 : goal.returns-then-byte-eq10
returns-then-byte-eq10 c =
    (cut-at _ _ c.loop-at-test.true c.if-byte-eq10.true c.loop-at.invariant ∙ (λ i. sym c.without_carriage_return.ensures i ∷ lines (sym (behind-at c.args.bytes.now c.loop-at.at) i)), shorter-at _ _ c.loop-at-test.true)

pub returns-in-len1-up : goal.returns-in-len1-up
returns-in-len1-up c = let more = c.in-len1-up.len_at_least in (cut-none _ (omega arith) (λ k less. c.loop-at.invariant k (let end = c.loop-at-test.false in omega arith)), omega arith)
