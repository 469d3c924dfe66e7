use Rattle.trees.proofs.CopySteps.{place-done}
use Rattle.trees.proofs.apply.place.Goals as goal

pub returns : goal.returns
returns c =
    place-done _ _ _ _ c.components.result.now _ _ c.insert.new.self.entries c.placement_cause.result c.is_directory-is_directory.result c.placement_cause.ensures c.in_default.is c.is_directory-is_directory.ensures c.components.ensures.value c.requires c.components.ensures.clean c.in_ok-plant.ensures.ok (λ q. c.in_ok-insert.ensures.updates.0 (record { 0 = q }))
