use Rattle.std.proofs.Common.{◌∙◌}
use Rattle.paths.proofs.WalkLaws.{limit_long, no_limit}
use Rattle.paths.proofs.reading.Walk.path.Goals as goal

pub returns-then-not-are_short : goal.returns-then-not-are_short
returns-then-not-are_short c p h = limit_long _ _ p c.if-beyond-gt0.false (cc) h

pub returns : goal.returns
returns c p h =
    let fine = no_limit _ _ p c.if-beyond-gt0.false (cc) h in
    (c.from_parts.ensures ∙ (c.shrink_to_fit.ensures.items ∙ fine.0), fine.1)
