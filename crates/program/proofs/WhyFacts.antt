-- What is told of paths.
use Rattle.std.proofs.Common.{◌≡◌, ℕ, List, Result, Ok, Err, sym, subst}
use Rattle.std.specs.Prelude.{IfOk}
use Rattle.plain.specs.declared.refusal.Refusal.{Refusal}
use Rattle.expand.specs.Reasons.{rejection_of}
use Rattle.plain.specs.declared.fault.Fault.{Fault}
use Rattle.plain.specs.declared.fault.Fault.TheVariants.{Because}
use Rattle.counted.specs.Edges.{line_of}
use Rattle.imageconfig.specs.Reading.{config_in}
use Rattle.bundle.specs.Answer.{refused_text}
use Rattle.reasons.specs.Reasons.{TellsReasons}
use Rattle.answering.specs.declared.status.Status.TheVariants.{Refused}
use Rattle.program.specs.declared.told.Told.{Told}
use Rattle.program.specs.Why.{TellsWhy}

-- the refusal of a bundle is told as a line
pub refusal_told : {E : Type 0} (paths : List (List ℕ)) (bytes : List ℕ) (fault : Fault Refusal) (refusal : Refusal) (result : Result Told E)
    → fault ≡ Because refusal → TellsReasons config_in bytes paths (Err fault) → IfOk result (λ told. told.status ≡ Refused)
    → IfOk result (λ told. told.text ≡ line_of (refused_text (rejection_of refusal))) → IfOk result (λ told. TellsWhy paths bytes told.status told.text)
refusal_told paths bytes fault refusal (Ok told) because tells status text =
    subst (λ s. TellsWhy paths bytes s told.text) (sym status) (refusal, subst (λ f. TellsReasons config_in bytes paths (Err f)) because tells, text)
refusal_told paths bytes fault refusal (Err memory) because tells status text = status
