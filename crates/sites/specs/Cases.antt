-- The problem that a site has while nobody has said which.
use Rattle.std.specs.Prelude.{[]}
use Rattle.std.specs.FinMap.{empty}
use Rattle.trees.specs.TreeMap.{empty_tree}
use Rattle.runs.specs.declared.run.RunOutcome.TheVariants.{Exit}
use Rattle.plans.specs.Plan.{Problem}

-- some problem: nothing has to be solved (own)
abbrev pub no_problem : Problem
no_problem = record { out = λ request. Exit 1; sources = record { context = empty_tree; images = empty }; vertices = []; places = []; target = 0 }
