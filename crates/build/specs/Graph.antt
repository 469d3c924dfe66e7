-- What is drawn of the bytes of a bundle: the graph of what they ask for, as a definition (own, after BuildKit's LLB definition).
use Rattle.std.specs.Prelude.{◌≡◌, ℕ, List, Result, Ok, Err}
use Rattle.expand.specs.declared.reason.Rejection.{Rejection}
use Rattle.plans.specs.Plan.{PlanValue, IsPlan}
use Rattle.plans.specs.Value.{Out, value_of, tree_of}
use Rattle.imageconfig.specs.declared.config.Config.{Config}
use Rattle.evaluation.specs.declared.evaluated.Evaluated.{Evaluated}
use Rattle.lowering.specs.Means.{world, Means, StandsFor}
use Rattle.lowering.specs.Meaning.{tree_of_stage}
use Rattle.drawing.specs.Drawn.{Draws, Clashes}
use Rattle.bundle.specs.Answer.{refused_text}
use Rattle.answering.specs.declared.status.Status.{Status}
use Rattle.answering.specs.declared.status.Status.TheVariants.{Built, Failed, Refused}
use Rattle.build.specs.Meaning.{Asks}

-- A text is the graph of what a file's stages give: it draws the plan that stands for the file, in which no vertex stands twice, so it is the
-- definition of some vertices, all of which its result is or reaches; and under every executor the result has the target's tree, over the trees
-- that are there before the build, and none where the target has none. There is at most one such text, as the law `a_bundle_has_one_graph` says.
pub record IsGraphOf (made : Evaluated) (text : List ℕ) : Type 0 where
  pub plan : PlanValue Config
  pub is : IsPlan plan
  pub stands : StandsFor plan made.rows made.target
  pub draws : Draws plan text
  pub tree : (out : Out)
      → tree_of (value_of out made.sources draws.simple.graph.vertices draws.simple.target) ≡ tree_of_stage (world out made.sources) made.rows made.target

-- An answer of this status and text shows what is asked for: its graph, also where a build of it would fail; or the refusal.
abbrev pub Shows : Result Evaluated Rejection → Status → List ℕ → Type 0
Shows (Ok made) Built text = IsGraphOf made text
Shows (Ok made) Failed text = ⊥
Shows (Ok made) Refused text = ⊥
Shows (Err refusal) Built text = ⊥
Shows (Err refusal) Failed text = ⊥
Shows (Err refusal) Refused text = text ≡ refused_text refusal

-- an answer of this status and text is the graph of a bundle of these bytes, or its refusal
pub record GraphAnswers (bytes : List ℕ) (status : Status) (text : List ℕ) : Type 0 where
  pub asked : Result Evaluated Rejection
  pub asks : Asks bytes asked
  pub shows : Shows asked status text

-- two different operations of the plan that stands for what a bundle asks for have one address
pub record GraphClashes (bytes : List ℕ) : Type 0 where
  pub made : Evaluated
  pub asks : Asks bytes (Ok made)
  pub plan : PlanValue Config
  pub is : IsPlan plan
  pub means : Means plan made.rows made.target
  pub stands : StandsFor plan made.rows made.target
  pub clashes : Clashes plan
