-- What is written of a bundle for Graphviz, and how that ends (own).
use Rattle.std.specs.Prelude.{◌≡◌, ℕ, Bool, true, false, Option, List, Result, Ok, Err}
use Rattle.expand.specs.declared.reason.Rejection.{Rejection}
use Rattle.counted.specs.Edges.{line_of}
use Rattle.imageconfig.specs.declared.config.Config.{Config}
use Rattle.plans.specs.Plan.{PlanValue}
use Rattle.evaluation.specs.declared.evaluated.Evaluated.{Evaluated}
use Rattle.dot.specs.Drawn.{drawing}
use Rattle.bundle.specs.Answer.{refused_text}
use Rattle.answering.specs.declared.status.Status.{Status}
use Rattle.answering.specs.declared.status.Status.TheVariants.{Built, Failed, Refused}
use Rattle.program.specs.declared.fault.TellFault.{TellFault}
use Rattle.build.specs.Meaning.{Asks}
use Rattle.build.specs.Titled.{HasTitlesOf}
use Rattle.build.specs.Ends.{Devices, GraphEnds}
use Rattle.program.specs.Faults.{EndsAs}
use Rattle.program.specs.Llb.{IsDrawnPlan}
use Rattle.program.specs.Telling.{TellingEnds, never}

-- a text is the plan that is drawn of what a file's stages give, whose lines have these titles, in the DOT language
pub record IsPictureOf (made : Evaluated) (titles : List (Option (List ℕ))) (text : List ℕ) : Type 0 where
  pub plan : PlanValue Config
  pub drawn : IsDrawnPlan made plan
  pub is : text ≡ drawing titles plan.graph plan.target

-- What is written of a bundle of these bytes: its graph in the DOT language, with the titles of its Dockerfile's steps, whether or not a build of it
-- would fail; or the refusal of the bundle as a line.
abbrev pub TellsDot : List ℕ → Status → List ℕ → Type 0
TellsDot bytes Built text =
    (made : Evaluated) × Asks bytes (Ok made) × ((titles : List (Option (List ℕ))) × HasTitlesOf bytes titles × IsPictureOf made titles text)
TellsDot bytes Failed text = ⊥
TellsDot bytes Refused text = (refusal : Rejection) × Asks bytes (Err refusal) × (text ≡ line_of (refused_text refusal))

-- how writing it ends; it never stops, since no operation is named by an address
abbrev pub DotEnds : Devices → Devices → Result Status TellFault → Type 0
DotEnds old new ended = TellingEnds TellsDot never old new ended

-- how writing a graph ends: in the DOT language, or by content addresses
abbrev pub DrawingEnds : Bool → Devices → Devices → Result Status TellFault → Type 0
DrawingEnds true old new ended = DotEnds old new ended
DrawingEnds false old new ended = EndsAs GraphEnds old new ended
