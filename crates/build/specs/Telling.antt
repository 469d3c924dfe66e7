-- What the solution of a plan is told as.
use Rattle.std.specs.Prelude.{◌≡◌, ℕ, List, Result, Ok, Err}
use Rattle.std.specs.FinMap.{entries}
use Rattle.plain.specs.declared.fault.Fault.{Fault}
use Rattle.plain.specs.declared.fault.Fault.TheVariants.{Because, Memory}
use Rattle.expand.specs.declared.reason.Rejection.{Rejection}
use Rattle.imageconfig.specs.Reading.{config_in}
use Rattle.imageconfig.specs.Writing.{config_data}
use Rattle.imageconfig.specs.declared.config.Config.{Config}
use Rattle.bundle.specs.Answer.{built_text, failed_text}
use Rattle.bundle.specs.declared.whole.Bundle.{Bundle}
use Rattle.bundle.specs.Reading.{ReadsBundle}
use Rattle.cachemounts.specs.StoreValue.{StoreValue}
use Rattle.solver.specs.declared.solution.Solution.{Solution}
use Rattle.solver.specs.declared.solution.Solution.TheVariants as solution
use Rattle.answering.specs.declared.status.Status.{Status}
use Rattle.answering.specs.declared.status.Status.TheVariants.{Built, Failed}
use Rattle.build.specs.declared.asking.Asked.{Asked}
use Rattle.build.specs.Meaning.{Asks}

-- what a call answers of a bundle's bytes: what they ask for, or their refusal; want of memory says nothing of them
abbrev pub IsAsked : List ℕ → Result Asked (Fault Rejection) → Type 0
IsAsked bytes (Ok asked) = Asks bytes (Ok asked.evaluated)
IsAsked bytes (Err (Because refusal)) = Asks bytes (Err refusal)
IsAsked bytes (Err Memory) = Unit {0}

-- a store of caches holds what a bundle of these bytes says that the caches hold
abbrev pub HasStoreOf : List ℕ → StoreValue → Type 0
HasStoreOf bytes store = (bundle : Bundle Config) × ReadsBundle config_in bytes (Ok bundle) × (store ≡ bundle.caches)

-- the status that tells a solution
abbrev pub status_of : Solution → Status
status_of (solution.Built tree) = Built
status_of (solution.Failed vertex place cause) = Failed

-- the text that tells a solution, with this configuration
abbrev pub text_of : Config → Solution → List ℕ
text_of config (solution.Built tree) = built_text (config_data config) (entries tree)
text_of config (solution.Failed vertex place cause) = failed_text place cause
