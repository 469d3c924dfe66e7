use Rattle.std.proofs.Common.{◌<◌, ◌∙◌, arith, length, rules}
use Rattle.checks.proofs.MarkFacts.{no_spot}
use Rattle.checks.proofs.mark.later_spot.Goals as goal

pub returns-then-not-branch : goal.returns-then-not-branch
returns-then-not-branch c =
    let lt : c.loop-line.line-index < length c.args.later.now = omega arith in
    no_spot c.args.code c.args.subject c.loop-line.above c.loop-line.front.now c.args.later.now c.args.front c.loop-line.line-index lt (search rules)
    ∙ c.loop-line.invariant.left
