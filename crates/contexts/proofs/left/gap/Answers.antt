use Rattle.std.proofs.Common.{◌≡◌, ◌<◌, ◌∙◌, ◌+◌, ℕ, List, true, sym, ap, subst, arith, length, take}
use Rattle.paths.specs.Path.{is_at_or_under}
use Rattle.contexts.specs.Left.{IsGap}
use Rattle.contexts.specs.PrivateLeft.{Stand}
use Rattle.contexts.proofs.LeftFacts.{is_gap, under_take}
use Rattle.contexts.proofs.left.gap.Goals as goal

pub returns-clause-gap : goal.returns-clause-gap
returns-clause-gap c =
    let path = c.args.path.now in
    let depth = c.standing-depth.result in
    let stand : Stand c.args.tree.now path depth = subst (λ (names : List (List ℕ)). Stand c.args.tree.now names depth) c.components.ensures.value c.standing-depth.ensures in
    let most = stand.most in
    let within : depth < length path = omega (arith, most, c.if-depth.false, c.depth.ensures) in
    subst (λ (front : List (List ℕ)). IsGap c.args.tree.now front × (is_at_or_under path front ≡ true)) (sym c.in_ok-front.ensures)
    (is_gap c.args.tree.now path depth stand within, under_take path (depth + 1))
