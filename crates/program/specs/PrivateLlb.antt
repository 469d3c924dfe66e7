-- What the calls answer by which a bundle is written for BuildKit, step by step; want of memory says nothing.
use Rattle.std.specs.Prelude.{◌≡◌, ℕ, List, Result, Ok, Err}
use Rattle.command.specs.declared.task.LlbOptions.{LlbOptions}
use Rattle.imageconfig.specs.declared.config.Config.{Config}
use Rattle.plans.specs.Plan.{PlanValue}
use Rattle.evaluation.specs.declared.evaluated.Evaluated.{Evaluated}
use Rattle.exported.specs.declared.fault.Obstacle.{Obstacle}
use Rattle.plain.specs.declared.fault.Fault.{Fault}
use Rattle.answering.specs.declared.status.Status.TheVariants.{Built}
use Rattle.program.specs.declared.fault.TellFault.{TellFault}
use Rattle.program.specs.declared.fault.TellFault.TheVariants.{Memory, Device, Clash, Unspeakable}
use Rattle.exported.specs.Exporting.{exported, IsExported}
use Rattle.program.specs.declared.exporting.Beside.{Beside}
use Rattle.program.specs.declared.told.Told.{Told}
use Rattle.program.specs.Llb.{chosen, IsDefinitionOf, HasObstacle, TellsLlb, LlbStops}
use Rattle.program.specs.PrivateTelling.{IsToldBy}

-- what is written of a file's stages, whose lines have these titles
abbrev pub IsFileTold : LlbOptions → Evaluated → Beside → Result Told TellFault → Type 0
IsFileTold options made beside (Ok told) = (told.status ≡ Built) × IsDefinitionOf options made beside told.text
IsFileTold options made beside (Err Memory) = Unit {0}
IsFileTold options made beside (Err Device) = ⊥
IsFileTold options made beside (Err Clash) = HasObstacle options Clash made beside
IsFileTold options made beside (Err Unspeakable) = HasObstacle options Unspeakable made beside

-- what is written of a plan, whose lines have these titles
abbrev pub IsPlanTold : LlbOptions → PlanValue Config → Beside → Result (List ℕ) (Fault Obstacle) → Type 0
IsPlanTold options plan beside result = IsExported (exported (chosen options beside.left beside.digests plan) beside.titles plan.graph plan.target) result

-- what is written of a bundle's bytes
abbrev pub IsLlbTold : LlbOptions → List ℕ → Result Told TellFault → Type 0
IsLlbTold options bytes result = IsToldBy (TellsLlb options) (LlbStops options) bytes result
