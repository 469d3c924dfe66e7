use Rattle.std.proofs.Common.{◌≡◌, ◌<◌, ◌-◌, ◌++◌, ℕ, List, Option, None, length, replicate, arith, sym, ◌∙◌, subst}
use Rattle.titles.proofs.TitleFacts.{margin_less}
use Rattle.titles.proofs.titling.with_title.Goals as goal

pub loop-titles-preserved : goal.loop-titles-preserved
loop-titles-preserved c =
    let all : List (Option (List ℕ)) = c.args.titles ++ replicate (c.args.line - length c.args.titles) None in
    let less : length c.loop-titles.titles < c.args.line = omega (arith, c.len.ensures, c.loop-titles-test.true) in
    subst (λ (titles : List (Option (List ℕ))). titles ++ replicate (c.args.line - length titles) None ≡ all) (sym c.in_ok-push.ensures.ok)
    (margin_less c.loop-titles.titles c.args.line None less ∙ c.loop-titles.invariant)
