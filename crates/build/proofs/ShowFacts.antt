-- The line that is shown of a bundle is the graph of what it asks for.
use Rattle.std.proofs.Common.{◌≡◌, ℕ, List, Result, Ok, Err, sym, ap, ◌∙◌, subst}
use Rattle.plain.specs.declared.fault.Fault.{Fault}
use Rattle.plain.specs.declared.fault.Fault.TheVariants.{Because}
use Rattle.expand.specs.declared.reason.Rejection.{Rejection}
use Rattle.plans.specs.Plan.{PlanValue, IsPlan, vertex_value}
use Rattle.plans.specs.Value.{Out, value_of, tree_of}
use Rattle.imageconfig.specs.declared.config.Config.{Config}
use Rattle.evaluation.specs.declared.evaluated.Evaluated.{Evaluated}
use Rattle.lowering.specs.Meaning.{tree_of_stage}
use Rattle.lowering.specs.Means.{Means, StandsFor, world}
use Rattle.drawing.specs.declared.fault.Clash.{Clash as Clashing}
use Rattle.drawing.specs.Drawn.{Draws, IsDrawn}
use Rattle.bundle.specs.Answer.{refused_text}
use Rattle.answering.specs.declared.status.Status.{Status}
use Rattle.answering.specs.declared.status.Status.TheVariants.{Built, Refused}
use Rattle.answering.specs.declared.status.BuildFault.{BuildFault}
use Rattle.answering.specs.declared.status.BuildFault.TheVariants.{Memory, Device, Clash}
use Rattle.answering.specs.declared.told.Told.{Told}
use Rattle.counted.specs.Edges.{line_of}
use Rattle.build.specs.Meaning.{Asks}
use Rattle.build.specs.Graph.{IsGraphOf, Shows}
use Rattle.build.specs.Telling.{IsAsked}
use Rattle.build.specs.PrivateShowing.{ShowsAsked, PlanClashes, IsFileShown, IsShown}

tree_is : (made : Evaluated) (plan : PlanValue Config) (text : List ℕ) → Means plan made.rows made.target → plan.sources ≡ made.sources → (draws : Draws plan text)
    → (out : Out) → tree_of (value_of out made.sources draws.simple.graph.vertices draws.simple.target) ≡ tree_of_stage (world out made.sources) made.rows made.target
unfolding vertex_value
tree_is made plan text means sources draws out =
    ap (λ s. tree_of (value_of out s draws.simple.graph.vertices draws.simple.target)) (sym sources)
    ∙ ap tree_of (draws.value out)
    ∙ means.tree out
    ∙ ap (λ s. tree_of_stage (world out s) made.rows made.target) sources

-- what is drawn of a plan that means what a file's stages give is their graph
pub graph_of_file : (made : Evaluated) (plan : PlanValue Config) (text : List ℕ) → IsPlan plan → Means plan made.rows made.target → StandsFor plan made.rows made.target
    → plan.sources ≡ made.sources → Draws plan text → IsGraphOf made text
graph_of_file made plan text is means stands sources draws = record {
  plan = plan;
  is = is;
  stands = stands;
  draws = draws;
  tree = tree_is made plan text means sources draws;
}

line_shows : (asked : Result Evaluated Rejection) (status : Status) (text : List ℕ) (told : Told)
    → Shows asked status text → told.status ≡ status → told.line ≡ line_of text → ShowsAsked asked told
line_shows asked status text told shows is line = (text, subst (λ s. Shows asked s text) (sym is) shows, line)

-- the line of a graph
pub file_shown : (made : Evaluated) (plan : PlanValue Config) (text : List ℕ) (told : Told) → IsPlan plan → Means plan made.rows made.target
    → StandsFor plan made.rows made.target → plan.sources ≡ made.sources → Draws plan text
    → told.status ≡ Built → told.line ≡ line_of text → ShowsAsked (Ok made) told
file_shown made plan text told is means stands sources draws status line =
    line_shows (Ok made) Built text told (graph_of_file made plan text is means stands sources draws) status line

-- no graph, since its operations clash
pub clash_shown : (made : Evaluated) (plan : PlanValue Config) (fault : Fault Clashing) (clash : Clashing) → fault ≡ Because clash → IsPlan plan
    → Means plan made.rows made.target → StandsFor plan made.rows made.target → IsDrawn plan (Err fault) → PlanClashes made
clash_shown made plan fault clash because is means stands drawn = (plan, is, means, stands, subst (λ f. IsDrawn plan (Err f)) because drawn)

-- what is shown of a file's stages is shown of the bundle that asks for them
pub bundle_shown : (bytes : List ℕ) (made : Evaluated) (result : Result Told BuildFault) → Asks bytes (Ok made) → IsFileShown made result → IsShown bytes result
bundle_shown bytes made (Ok told) asks shown = (shown.0, record { asked = Ok made; asks = asks; shows = shown.1 }, shown.2)
bundle_shown bytes made (Err Memory) asks shown = tt
bundle_shown bytes made (Err Device) asks shown = absurd shown
bundle_shown bytes made (Err Clash) asks clash = record { made = made; asks = asks; plan = clash.0; is = clash.1; means = clash.2; stands = clash.3; clashes = clash.4 }

-- a refusal that is told
pub refusal_shown : (bytes : List ℕ) (fault : Fault Rejection) (refusal : Rejection) (text : List ℕ) (told : Told) → fault ≡ Because refusal → IsAsked bytes (Err fault)
    → text ≡ refused_text refusal → told.status ≡ Refused → told.line ≡ line_of text → IsShown bytes (Ok told)
refusal_shown bytes fault refusal text told because asked is status line = (
  text,
  record {
    asked = Err refusal;
    asks = subst (λ f. IsAsked bytes (Err f)) because asked;
    shows = subst (λ s. Shows (Err refusal) s text) (sym status) is;
  },
  line,
)
