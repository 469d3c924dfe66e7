use Rattle.std.proofs.Common.{◌≡◌, map, drop}
use Rattle.std.specs.List.{list_any}
use Rattle.std.specs.Ordering.{is_eq, nat_cmp}
use Rattle.std.specs.Cmp.Lexicographic.{slice_cmp}
use Rattle.runs.specs.Run.{ids_differ}
use Rattle.llb.proofs.WellFormedSteps.{are_new}
use Rattle.actions.proofs.mounts.ids_differ.Given as goal

abbrev pub invariant-loop-id : goal.invariant-loop-id
invariant-loop-id l =
    ids_differ (map (λ id. id.now) l.ids)
    ≡ are_new (λ q. list_any (λ key. is_eq (slice_cmp nat_cmp q key.now)) l.seen.keys) (map (λ id. id.now) (drop l.id-index l.ids))
