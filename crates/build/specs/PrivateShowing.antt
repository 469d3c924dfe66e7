-- What the calls answer by which a bundle's graph is told, step by step; want of memory says nothing.
use Rattle.std.specs.Prelude.{◌≡◌, ℕ, List, Result, Ok, Err}
use Rattle.expand.specs.declared.reason.Rejection.{Rejection}
use Rattle.plans.specs.Plan.{PlanValue, IsPlan}
use Rattle.imageconfig.specs.declared.config.Config.{Config}
use Rattle.evaluation.specs.declared.evaluated.Evaluated.{Evaluated}
use Rattle.lowering.specs.Means.{Means, StandsFor}
use Rattle.drawing.specs.Drawn.{Clashes}
use Rattle.answering.specs.declared.status.BuildFault.{BuildFault}
use Rattle.answering.specs.declared.status.BuildFault.TheVariants.{Memory, Device, Clash}
use Rattle.answering.specs.declared.told.Told.{Told}
use Rattle.counted.specs.Edges.{line_of}
use Rattle.build.specs.Graph.{Shows, GraphAnswers, GraphClashes}

-- a line shows what is asked for: it is a text that does, and LF
abbrev pub ShowsAsked : Result Evaluated Rejection → Told → Type 0
ShowsAsked asked told = (text : List ℕ) × Shows asked told.status text × (told.line ≡ line_of text)

-- the plan of a file's stages clashes
abbrev pub PlanClashes : Evaluated → Type 0
PlanClashes made = (plan : PlanValue Config) × IsPlan plan × Means plan made.rows made.target × StandsFor plan made.rows made.target × Clashes plan

-- what is told of a file's stages
abbrev pub IsFileShown : Evaluated → Result Told BuildFault → Type 0
IsFileShown made (Ok told) = ShowsAsked (Ok made) told
IsFileShown made (Err Memory) = Unit {0}
IsFileShown made (Err Device) = ⊥
IsFileShown made (Err Clash) = PlanClashes made

-- what is told of a bundle's bytes
abbrev pub IsShown : List ℕ → Result Told BuildFault → Type 0
IsShown bytes (Ok told) = (text : List ℕ) × GraphAnswers bytes told.status text × (told.line ≡ line_of text)
IsShown bytes (Err Memory) = Unit {0}
IsShown bytes (Err Device) = ⊥
IsShown bytes (Err Clash) = GraphClashes bytes
