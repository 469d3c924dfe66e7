-- What a bundle's bytes hold, with what its ignore file leaves out.
use Rattle.std.proofs.Common.{◌≡◌, ◌∙◌, ℕ, List, Option, Some, None, Ok, Err, Result, sym, subst, inl}
use Rattle.std.proofs.lemmas.Option.{same_Some}
use Rattle.serde_json.specs.Data.{Data}
use Rattle.plain.specs.declared.fault.Fault.{Fault}
use Rattle.plain.specs.declared.fault.Fault.TheVariants.{Because}
use Rattle.plain.specs.declared.refusal.Refusal.{Refusal}
use Rattle.plain.specs.declared.refusal.Code.TheVariants.{R20}
use Rattle.contexts.specs.Left.{AreLeftOut as AreLacked}
use Rattle.bundle.specs.declared.parts.Parts.{Parts}
use Rattle.bundle.specs.declared.whole.Bundle.{Bundle}
use Rattle.bundle.specs.Parts.{parts_of}
use Rattle.bundle.specs.Reading.{Completes}
use Rattle.bundle.specs.LeftOut.{paths_in, bundle_in, AreLeftOut, LeavesOut}
use Rattle.bundle.specs.PrivateLeftOut.{CompletesFiltered}
use Rattle.bundle.proofs.WholeFacts.{reads}

module _ {C : Type 0} where
  -- a bundle, and what its context lacks of the paths that are listed
  pub completed : (parts : Parts C) (bundle : Bundle C) (paths : List (List (List ℕ))) (read : Bundle C × List (List (List ℕ))) → Completes parts (Ok bundle)
      → paths ≡ paths_in parts → (read.0 ≡ bundle) × AreLacked bundle.context paths read.1 → CompletesFiltered parts (Ok read)
  completed parts bundle paths read is listed left = record {
    completes = subst (λ (b : Bundle C). Completes parts (Ok b)) (sym left.0) is;
    leaves = subst (λ (l : List (List (List ℕ))). AreLacked read.0.context l read.1) listed (subst (λ (b : Bundle C). AreLacked b.context paths read.1) (sym left.0) left.1);
  }

  -- what the parts give, the bytes give
  pub leaves_out : (config : Data → Option C) (bytes : List ℕ) (parts : Parts C) (result : Result (Bundle C × List (List (List ℕ))) (Fault Refusal)) → parts_of config bytes ≡ Some parts
      → CompletesFiltered parts result → LeavesOut config bytes result
  leaves_out config bytes parts result e is = record {
    reads = reads config bytes parts (bundle_in result) e is.completes;
    leaves = λ other f. subst (λ (p : Parts C). AreLeftOut p result) (same_Some parts other (sym e ∙ f)) is.leaves;
  }

  -- bytes that are no bundle
  pub no_bundle : (config : Data → Option C) (bytes : List ℕ) (refusal : Refusal) → parts_of config bytes ≡ None → refusal ≡ record { code = R20; line = 0 }
      → LeavesOut config bytes (Err (Because refusal))
  no_bundle config bytes refusal none is = record { reads = inl (none, is); leaves = λ parts e. tt }
