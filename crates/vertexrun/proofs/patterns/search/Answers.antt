use Rattle.std.proofs.Common.{◌∙◌}
use Rattle.vertexrun.proofs.MatchSteps.{matches-found, matches-none}
use Rattle.vertexrun.proofs.patterns.search.Goals as goal

pub returns-in_ok-matches_of-in-Ok : goal.returns-in_ok-matches_of-in-Ok
returns-in_ok-matches_of-in-Ok c =
    c.from_vec.ensures ∙ c.in_ok-matches_of-in-Ok.ensures
    ∙ matches-found c.args.from.now c.args.pattern.now c.in-Ok.glob c.in-Ok.ensures

pub returns-in-Err-Because : goal.returns-in-Err-Because
returns-in-Err-Because c =
    c.new.ensures ∙ matches-none c.args.from.now c.args.pattern.now (rw c.in-Err-Because.field-0-is at c.in-Err-Because.ensures)
