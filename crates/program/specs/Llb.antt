-- What is written of a bundle for BuildKit, and how that ends (own; BuildKit's LLB).
use Rattle.std.specs.Prelude.{◌≡◌, ℕ, Bool, List, Option, None, Result, Ok, Err, if◌then◌else◌}
use Rattle.expand.specs.declared.reason.Rejection.{Rejection}
use Rattle.counted.specs.Edges.{line_of}
use Rattle.command.specs.declared.task.LlbOptions.{LlbOptions}
use Rattle.command.specs.declared.task.MergeName.{MergeName}
use Rattle.command.specs.declared.task.MergeName.TheVariants.{Native, Chain}
use Rattle.command.specs.declared.task.NetworkName.{NetworkName}
use Rattle.command.specs.declared.task.NetworkName.TheVariants.{Usual, Absent, Host}
use Rattle.command.specs.declared.task.PlatformName.{PlatformName}
use Rattle.imageconfig.specs.declared.config.Config.{Config}
use Rattle.plans.specs.Plan.{PlanValue, IsPlan}
use Rattle.plans.specs.Value.{Out, value_of, tree_of}
use Rattle.evaluation.specs.declared.evaluated.Evaluated.{Evaluated}
use Rattle.lowering.specs.Means.{world, StandsFor}
use Rattle.lowering.specs.Meaning.{tree_of_stage}
use Rattle.drawing.specs.Drawn.{IsSimplified}
use Rattle.llbmessages.specs.declared.exec.Network.{Network}
use Rattle.llbmessages.specs.declared.exec.Network.TheVariants as network
use Rattle.llbmessages.specs.declared.op.Platform.{Platform}
use Rattle.exported.specs.declared.fault.Obstacle.{Obstacle}
use Rattle.exported.specs.declared.fault.Obstacle.TheVariants as way
use Rattle.exported.specs.declared.making.Merging.{Merging}
use Rattle.exported.specs.declared.making.Merging.TheVariants as merging
use Rattle.exported.specs.declared.making.Options.{Options}
use Rattle.exported.specs.Excluding.{exclude_list}
use Rattle.exported.specs.Following.{follow_list}
use Rattle.exported.specs.Exporting.{exported, IsExported}
use Rattle.bundle.specs.Answer.{refused_text}
use Rattle.answering.specs.declared.status.Status.{Status}
use Rattle.answering.specs.declared.status.Status.TheVariants.{Built, Failed, Refused}
use Rattle.program.specs.declared.fault.TellFault.{TellFault}
use Rattle.program.specs.declared.fault.TellFault.TheVariants.{Clash, Unspeakable}
use Rattle.build.specs.Meaning.{Asks}
use Rattle.build.specs.Titled.{HasTitlesOf, HasLeftOut, HasDigests}
use Rattle.build.specs.Ends.{Devices}
use Rattle.program.specs.declared.exporting.Beside.{Beside}
use Rattle.program.specs.Telling.{Stops, TellingEnds}

-- the network of a name
abbrev pub network_of : NetworkName → Network
network_of Usual = network.Sandbox
network_of Absent = network.None
network_of Host = network.Host

-- the platform of these names
abbrev pub platform_of : PlatformName → Platform
platform_of names = record { architecture = names.architecture; os = names.os; variant = names.variant }

-- what a merge is by a name
abbrev pub merging_of : MergeName → Merging
merging_of Native = merging.Native
merging_of Chain = merging.Chain

-- the patterns of what a plan names of the folder, if BuildKit is to be given no more
abbrev pub followed : Bool → PlanValue Config → Option (List ℕ)
followed follow plan = if follow then follow_list plan.graph plan.target else None

-- what the words choose of the definition of a plan, in which BuildKit isn't given these paths of the folder, and names of images have these digests
abbrev pub chosen : LlbOptions → List (List (List ℕ)) → List (List ℕ × List ℕ) → PlanValue Config → Options
chosen options left digests plan =
    record {
      platform = platform_of options.platform;
      network = network_of options.network;
      unique = options.unique;
      merging = merging_of options.merging;
      digests = digests;
      excludes = exclude_list left;
      follows = followed options.follow plan;
    }

-- A plan is the one whose graph is drawn of what a file's stages give: that which stands for the file, with its links put into one and without
-- what its target doesn't reach. Under every executor it has the target's tree, and none where the target has none.
pub record IsDrawnPlan (made : Evaluated) (simple : PlanValue Config) : Type 0 where
  pub plan : PlanValue Config
  pub is : IsPlan plan
  pub stands : StandsFor plan made.rows made.target
  pub simplified : IsSimplified plan simple
  pub tree : (out : Out)
      → tree_of (value_of out made.sources simple.graph.vertices simple.target) ≡ tree_of_stage (world out made.sources) made.rows made.target

-- the titles of a bundle's lines, what its ignore file leaves out, and the digests of its images
pub record IsBeside (bytes : List ℕ) (beside : Beside) : Type 0 where
  pub titles : HasTitlesOf bytes beside.titles
  pub left : HasLeftOut bytes beside.left
  pub digests : HasDigests bytes beside.digests

-- bytes are the definition of the plan that is drawn of what a file's stages give, whose lines have these titles, by the patterns of what is left out
-- and the digests that names of images have, and are read as it and nothing else
pub record IsDefinitionOf (options : LlbOptions) (made : Evaluated) (beside : Beside) (text : List ℕ) : Type 0 where
  pub plan : PlanValue Config
  pub drawn : IsDrawnPlan made plan
  pub written : IsExported (exported (chosen options beside.left beside.digests plan) beside.titles plan.graph plan.target) (Ok text)

-- What is written of a bundle of these bytes: the definition of its graph, with the titles of its Dockerfile's steps and with the patterns of what its
-- ignore file leaves out, and with the digests of its images, whether or not a build of it would fail; or the refusal of the bundle as a line.
abbrev pub TellsLlb : LlbOptions → List ℕ → Status → List ℕ → Type 0
TellsLlb options bytes Built text =
    (made : Evaluated) × Asks bytes (Ok made) × ((beside : Beside) × IsBeside bytes beside × IsDefinitionOf options made beside text)
TellsLlb options bytes Failed text = ⊥
TellsLlb options bytes Refused text = (refusal : Rejection) × Asks bytes (Err refusal) × (text ≡ line_of (refused_text refusal))

-- with which fault an obstacle ends it
abbrev pub fault_of : Obstacle → TellFault
fault_of (way.Unspeakable vertex) = Unspeakable
fault_of (way.Clash vertex) = Clash

-- the plan that is drawn of what a file's stages give, whose lines have these titles, has no definition, for which this is the fault
pub record HasObstacle (options : LlbOptions) (fault : TellFault) (made : Evaluated) (beside : Beside) : Type 0 where
  pub plan : PlanValue Config
  pub drawn : IsDrawnPlan made plan
  pub obstacle : Obstacle
  pub is : fault_of obstacle ≡ fault
  pub told : exported (chosen options beside.left beside.digests plan) beside.titles plan.graph plan.target ≡ Err obstacle

-- the same of what a bundle of these bytes asks for
abbrev pub LlbStops : LlbOptions → Stops
LlbStops options fault bytes =
    (made : Evaluated) × Asks bytes (Ok made) × ((beside : Beside) × IsBeside bytes beside × HasObstacle options fault made beside)

-- how writing it ends
abbrev pub LlbEnds : LlbOptions → Devices → Devices → Result Status TellFault → Type 0
LlbEnds options old new ended = TellingEnds (TellsLlb options) (LlbStops options) old new ended
