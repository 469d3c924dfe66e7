-- The text of an answer or a refusal, and which status tells it (own).
use Rattle.std.specs.Prelude.{ℕ, List, Result, Ok, Err}
use Rattle.std.specs.FinMap.{entries}
use Rattle.expand.specs.declared.reason.Rejection.{Rejection}
use Rattle.imageconfig.specs.Writing.{config_data}
use Rattle.imageconfig.specs.declared.config.Config.{Config}
use Rattle.bundle.specs.Answer.{built_text, failed_text, refused_text}
use Rattle.solver.specs.declared.answer.Answer.{Answer}
use Rattle.solver.specs.declared.answer.Answer.TheVariants as answer
use Rattle.answering.specs.declared.status.Status.{Status}
use Rattle.answering.specs.declared.status.Status.TheVariants.{Built, Failed, Refused}

-- the text of an answer or a refusal
abbrev pub answer_text : Result (Answer Config) Rejection → List ℕ
answer_text (Ok (answer.Built tree config)) = built_text (config_data config) (entries tree)
answer_text (Ok (answer.Failed place cause)) = failed_text place cause
answer_text (Err refusal) = refused_text refusal

-- the status that tells it
abbrev pub answer_status : Result (Answer Config) Rejection → Status
answer_status (Ok (answer.Built tree config)) = Built
answer_status (Ok (answer.Failed place cause)) = Failed
answer_status (Err refusal) = Refused
