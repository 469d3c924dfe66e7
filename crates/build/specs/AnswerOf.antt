-- Which answer, or refusal, is that of what a bundle asks for.
use Rattle.std.specs.Prelude.{◌≡◌, Result, Ok, Err}
use Rattle.expand.specs.declared.reason.Rejection.{Rejection}
use Rattle.plans.specs.Value.{Out}
use Rattle.evaluation.specs.declared.evaluated.Evaluated.{Evaluated}
use Rattle.imageconfig.specs.declared.config.Config.{Config}
use Rattle.lowering.specs.Means.{world}
use Rattle.lowering.specs.Outcome.{IsOutcome}
use Rattle.solver.specs.declared.answer.Answer.{Answer}
use Rattle.solver.specs.declared.answer.Answer.TheVariants.{Built, Failed}

-- an answer is one to what is asked for, under an executor that answers so: the target's tree, with its configuration; the first instruction that
-- fails, by its line and its cause; or the refusal
abbrev pub IsAnswerTo : Out → Result Evaluated Rejection → Result (Answer Config) Rejection → Type 0
IsAnswerTo out (Ok made) (Ok (Built tree config)) = IsOutcome (world out made.sources) made.rows made.target (Ok tree) × (config ≡ made.config)
IsAnswerTo out (Ok made) (Ok (Failed line cause)) = IsOutcome (world out made.sources) made.rows made.target (Err (line, cause))
IsAnswerTo out (Ok made) (Err refusal) = ⊥
IsAnswerTo out (Err refusal) (Ok answer) = ⊥
IsAnswerTo out (Err refusal) (Err other) = other ≡ refusal
