-- What a bundle's parts give, with what its ignore file leaves out.
use Rattle.std.specs.Prelude.{ℕ, Result, List}
use Rattle.plain.specs.declared.fault.Fault.{Fault}
use Rattle.plain.specs.declared.refusal.Refusal.{Refusal}
use Rattle.bundle.specs.declared.parts.Parts.{Parts}
use Rattle.bundle.specs.declared.whole.Bundle.{Bundle}
use Rattle.bundle.specs.Reading.{Completes}
use Rattle.bundle.specs.LeftOut.{bundle_in, AreLeftOut}

pub record CompletesFiltered {C : Type 0} (parts : Parts C) (result : Result (Bundle C × List (List (List ℕ))) (Fault Refusal)) : Type 0 where
  pub completes : Completes parts (bundle_in result)
  pub leaves : AreLeftOut parts result
