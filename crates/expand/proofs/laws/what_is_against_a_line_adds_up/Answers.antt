use Rattle.expand.proofs.WorseLaws.{worse-assoc, worse-none, worst-append}
use Rattle.expand.proofs.laws.what_is_against_a_line_adds_up.Goals as goal

pub returns-clause-grouped : goal.returns-clause-grouped
returns-clause-grouped c = worse-assoc

pub returns-clause-nothing : goal.returns-clause-nothing
returns-clause-nothing c = worse-none

pub returns-clause-lists : goal.returns-clause-lists
returns-clause-lists c = worst-append
