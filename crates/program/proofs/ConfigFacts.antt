-- What is told of a configuration.
use Rattle.std.proofs.Common.{◌≡◌, ℕ, List, Result, Ok, Err, sym, subst}
use Rattle.std.specs.Prelude.{IfOk}
use Rattle.expand.specs.declared.reason.Rejection.{Rejection}
use Rattle.plain.specs.declared.fault.Fault.{Fault}
use Rattle.plain.specs.declared.fault.Fault.TheVariants.{Because}
use Rattle.counted.specs.Edges.{line_of}
use Rattle.serde_json.specs.Written.{compact_text}
use Rattle.imageconfig.specs.Writing.{config_data}
use Rattle.evaluation.specs.declared.evaluated.Evaluated.{Evaluated}
use Rattle.bundle.specs.Answer.{refused_text}
use Rattle.answering.specs.declared.status.Status.TheVariants.{Built, Refused}
use Rattle.build.specs.Meaning.{Asks}
use Rattle.build.specs.Telling.{IsAsked}
use Rattle.program.specs.declared.told.Told.{Told}
use Rattle.program.specs.Config.{TellsConfig}

-- the configuration of what a bundle asks for
pub config_told : {E : Type 0} (bytes : List ℕ) (made : Evaluated) (result : Result Told E) → Asks bytes (Ok made) → IfOk result (λ told. told.status ≡ Built)
    → IfOk result (λ told. told.text ≡ line_of (compact_text (config_data made.config))) → IfOk result (λ told. TellsConfig bytes told.status told.text)
config_told bytes made (Ok told) asked status text = subst (λ s. TellsConfig bytes s told.text) (sym status) (made, asked, text)
config_told bytes made (Err memory) asked status text = status

-- the refusal of a bundle
pub refusal_told : {E : Type 0} (bytes : List ℕ) (fault : Fault Rejection) (refusal : Rejection) (result : Result Told E)
    → fault ≡ Because refusal → IsAsked bytes (Err fault) → IfOk result (λ told. told.status ≡ Refused)
    → IfOk result (λ told. told.text ≡ line_of (refused_text refusal)) → IfOk result (λ told. TellsConfig bytes told.status told.text)
refusal_told bytes fault refusal (Ok told) because asked status text =
    subst (λ s. TellsConfig bytes s told.text) (sym status) (refusal, subst (λ f. IsAsked bytes (Err f)) because asked, text)
refusal_told bytes fault refusal (Err memory) because asked status text = status
