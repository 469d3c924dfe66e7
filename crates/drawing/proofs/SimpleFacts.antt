-- What pruning leaves of a flattened plan.
use Rattle.std.specs.Prelude.{Ok, Err, Result, IfOk}
use Rattle.plans.specs.Plan.{PlanValue}
use Rattle.rewrite.specs.Flat.{IsFlattened, MergesAreFlat}
use Rattle.rewrite.specs.Pruned.{IsPruned, KeepsMeaning}
use Rattle.rewrite.proofs.LawFacts.{kept_on, pruned_flat}
use Rattle.drawing.specs.Drawn.{IsSimplified}

pub simplified : {C E : Type 0} (plan flat : PlanValue C) (result : Result (PlanValue C) E) → IsFlattened plan flat → IfOk result (IsPruned flat)
    → IfOk result (IsSimplified plan)
simplified plan flat (Ok simple) flattened pruned = record { flat = flat; flattened = flattened; pruned = pruned }
simplified plan flat (Err memory) flattened pruned = pruned

pub flat_on : {C E : Type 0} (flat : PlanValue C) (result : Result (PlanValue C) E) → MergesAreFlat flat.graph.vertices
    → IfOk result (IsPruned flat) → IfOk result (λ simple. MergesAreFlat simple.graph.vertices)
flat_on flat (Ok simple) links pruned = pruned_flat flat simple pruned links
flat_on flat (Err memory) links pruned = pruned

pub means_on : {C E : Type 0} (plan flat : PlanValue C) (result : Result (PlanValue C) E) → KeepsMeaning plan flat
    → IfOk result (KeepsMeaning flat) → IfOk result (KeepsMeaning plan)
means_on plan flat (Ok simple) one two = kept_on plan flat simple one two
means_on plan flat (Err memory) one two = two
