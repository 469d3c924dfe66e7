-- What is told is the text of an answer, and the text of an answer is told.
use Rattle.std.proofs.Common.{◌≡◌, ℕ, List, Result, Ok, Err, refl, ap}
use Rattle.std.specs.FinMap.{entries}
use Rattle.expand.specs.declared.reason.Rejection.{Rejection}
use Rattle.plans.specs.Value.{Out}
use Rattle.evaluation.specs.declared.evaluated.Evaluated.{Evaluated}
use Rattle.imageconfig.specs.Writing.{config_data}
use Rattle.imageconfig.specs.declared.config.Config.{Config}
use Rattle.bundle.specs.Answer.{built_text, refused_text}
use Rattle.solver.specs.declared.answer.Answer.{Answer}
use Rattle.solver.specs.declared.answer.Answer.TheVariants as answer
use Rattle.answering.specs.declared.status.Status.{Status}
use Rattle.answering.specs.declared.status.Status.TheVariants.{Built, Failed, Refused}
use Rattle.answering.specs.Text.{answer_status, answer_text}
use Rattle.build.specs.AnswerOf.{IsAnswerTo}
use Rattle.build.specs.Meaning.{Tells}

pub told : (out : Out) (asked : Result Evaluated Rejection) (status : Status) (text : List ℕ) → Tells out asked status text
    → (found : Result (Answer Config) Rejection) × IsAnswerTo out asked found × (status ≡ answer_status found) × (text ≡ answer_text found)
told out (Ok made) Built text is = (Ok (answer.Built is.0 made.config), (is.1, refl), refl, is.2)
told out (Ok made) Failed text is = (Ok (answer.Failed is.0 is.1), is.2, refl, is.3)
told out (Ok made) Refused text is = absurd is
told out (Err refusal) Built text is = absurd is
told out (Err refusal) Failed text is = absurd is
told out (Err refusal) Refused text is = (Err refusal, refl, refl, is)

pub tells : (out : Out) (asked : Result Evaluated Rejection) (found : Result (Answer Config) Rejection) → IsAnswerTo out asked found
    → Tells out asked (answer_status found) (answer_text found)
tells out (Ok made) (Ok (answer.Built tree config)) is = (tree, is.0, ap (λ c. built_text (config_data c) (entries tree)) is.1)
tells out (Ok made) (Ok (answer.Failed line cause)) is = (line, cause, is, refl)
tells out (Ok made) (Err refusal) is = absurd is
tells out (Err refusal) (Ok found) is = absurd is
tells out (Err refusal) (Err other) is = ap refused_text is
