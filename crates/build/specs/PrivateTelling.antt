-- What is told of a bundle, of what it asks for, and of a plan.
use Rattle.std.specs.Prelude.{◌≡◌, ℕ, List, Result}
use Rattle.expand.specs.declared.reason.Rejection.{Rejection}
use Rattle.counted.specs.Edges.{line_of}
use Rattle.plans.specs.Plan.{PlanValue, problem_of}
use Rattle.plans.specs.Value.{Out}
use Rattle.imageconfig.specs.declared.config.Config.{Config}
use Rattle.evaluation.specs.declared.evaluated.Evaluated.{Evaluated}
use Rattle.solver.specs.Solution.{IsSolution}
use Rattle.solver.specs.declared.solution.Solution.{Solution}
use Rattle.answering.specs.Told.{TellsText}
use Rattle.answering.specs.declared.told.Told.{Told}
use Rattle.build.specs.Meaning.{Tells, Answers}
use Rattle.build.specs.Telling.{status_of, text_of}

-- a line tells a solution, with this configuration
abbrev pub TellsSolution : Config → Solution → Told → Type 0
TellsSolution config solution told = TellsText (status_of solution) (text_of config solution) told

-- a line tells a solution of a plan, with the plan's configuration
abbrev pub TellsPlan : Out → PlanValue Config → Told → Type 0
TellsPlan out plan told =
    (solution : Solution) × IsSolution (problem_of out plan) solution × (told.status ≡ status_of solution) × (told.line ≡ line_of (text_of plan.config solution))

-- a line tells what is asked for: it is a text that does, and LF
abbrev pub TellsAsked : Out → Result Evaluated Rejection → Told → Type 0
TellsAsked out asked told = (text : List ℕ) × Tells out asked told.status text × (told.line ≡ line_of text)

-- a line is an answer to a bundle of these bytes, and LF
abbrev pub TellsBundle : List ℕ → Out → Told → Type 0
TellsBundle bytes out told = (text : List ℕ) × Answers bytes out told.status text × (told.line ≡ line_of text)
