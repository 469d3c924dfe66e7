-- What is told of a bundle in the DOT language.
use Rattle.std.proofs.Common.{◌≡◌, ℕ, List, Option, Result, Ok, Err, sym, subst}
use Rattle.std.specs.Prelude.{IfOk}
use Rattle.expand.specs.declared.reason.Rejection.{Rejection}
use Rattle.plain.specs.declared.fault.Fault.{Fault}
use Rattle.plain.specs.declared.fault.Fault.TheVariants.{Because}
use Rattle.counted.specs.Edges.{line_of}
use Rattle.evaluation.specs.declared.evaluated.Evaluated.{Evaluated}
use Rattle.bundle.specs.Answer.{refused_text}
use Rattle.answering.specs.declared.status.Status.TheVariants.{Built, Refused}
use Rattle.build.specs.Meaning.{Asks}
use Rattle.build.specs.Telling.{IsAsked}
use Rattle.build.specs.Titled.{HasTitlesOf}
use Rattle.program.specs.declared.told.Told.{Told}
use Rattle.program.specs.Dot.{IsPictureOf, TellsDot}

-- the graph of what a bundle asks for
pub picture_told : {E : Type 0} (bytes : List ℕ) (made : Evaluated) (titles : List (Option (List ℕ))) (result : Result Told E) → Asks bytes (Ok made)
    → HasTitlesOf bytes titles → IfOk result (λ told. told.status ≡ Built) → IfOk result (λ told. IsPictureOf made titles told.text)
    → IfOk result (λ told. TellsDot bytes told.status told.text)
picture_told bytes made titles (Ok told) asked has status text =
    subst (λ s. TellsDot bytes s told.text) (sym status) (made, asked, (titles, has, text))
picture_told bytes made titles (Err memory) asked has status text = status

-- the refusal of a bundle
pub refusal_told : {E : Type 0} (bytes : List ℕ) (fault : Fault Rejection) (refusal : Rejection) (result : Result Told E)
    → fault ≡ Because refusal → IsAsked bytes (Err fault) → IfOk result (λ told. told.status ≡ Refused)
    → IfOk result (λ told. told.text ≡ line_of (refused_text refusal)) → IfOk result (λ told. TellsDot bytes told.status told.text)
refusal_told bytes fault refusal (Ok told) because asked status text =
    subst (λ s. TellsDot bytes s told.text) (sym status) (refusal, subst (λ f. IsAsked bytes (Err f)) because asked, text)
refusal_told bytes fault refusal (Err memory) because asked status text = status
