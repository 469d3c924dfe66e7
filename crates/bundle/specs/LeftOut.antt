-- What reading a bundle answers that also gives what its ignore file leaves out of its context (own).
use Rattle.std.specs.Prelude.{◌≡◌, ℕ, Option, Some, Result, Ok, Err, List, map}
use Rattle.serde_json.specs.Data.{Data}
use Rattle.plain.specs.declared.fault.Fault.{Fault}
use Rattle.plain.specs.declared.refusal.Refusal.{Refusal}
use Rattle.contexts.specs.Left.{AreLeftOut as AreLacked}
use Rattle.bundle.specs.declared.parts.Parts.{Parts}
use Rattle.bundle.specs.declared.whole.Bundle.{Bundle}
use Rattle.bundle.specs.Parts.{parts_of}
use Rattle.bundle.specs.Reading.{ReadsBundle}

-- the paths that the context of a bundle lists
abbrev pub paths_in : {C : Type 0} → Parts C → List (List (List ℕ))
paths_in parts = map (λ row. row.0) parts.files.context

-- the answer without what is left out
abbrev pub bundle_in : {C : Type 0} → Result (Bundle C × List (List (List ℕ))) (Fault Refusal) → Result (Bundle C) (Fault Refusal)
bundle_in (Ok read) = Ok read.0
bundle_in (Err fault) = Err fault

-- what is left out: what the bundle's context, which is filtered, lacks of the paths that are listed
abbrev pub AreLeftOut : {C : Type 0} → Parts C → Result (Bundle C × List (List (List ℕ))) (Fault Refusal) → Type 0
AreLeftOut parts (Ok read) = AreLacked read.0.context (paths_in parts) read.1
AreLeftOut parts (Err fault) = Unit {0}

-- what reading the bytes of a bundle answers with what its ignore file leaves out
pub record LeavesOut {C : Type 0} (config : Data → Option C) (bytes : List ℕ) (result : Result (Bundle C × List (List (List ℕ))) (Fault Refusal)) : Type 0 where
  pub reads : ReadsBundle config bytes (bundle_in result)
  pub leaves : (parts : Parts C) → parts_of config bytes ≡ Some parts → AreLeftOut parts result
