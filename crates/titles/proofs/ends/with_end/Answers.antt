use Rattle.std.proofs.Common.{◌≡◌, ◌<◌, ◌-◌, ◌++◌, ℕ, List, length, replicate, arith, sym, ◌∙◌, subst}
use Rattle.titles.proofs.TitleFacts.{margin_less}
use Rattle.titles.proofs.ends.with_end.Goals as goal

pub loop-ends-preserved : goal.loop-ends-preserved
loop-ends-preserved c =
    let all : List ℕ = c.args.ends ++ replicate (c.args.line - length c.args.ends) 0 in
    let less : length c.loop-ends.ends < c.args.line = omega (arith, c.len.ensures, c.loop-ends-test.true) in
    subst (λ (ends : List ℕ). ends ++ replicate (c.args.line - length ends) 0 ≡ all) (sym c.in_ok-push.ensures.ok)
    (margin_less c.loop-ends.ends c.args.line 0 less ∙ c.loop-ends.invariant)
