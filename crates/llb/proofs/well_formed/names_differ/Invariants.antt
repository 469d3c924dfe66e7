use Rattle.std.proofs.Common.{◌≡◌, map, drop}
use Rattle.std.specs.List.{list_any}
use Rattle.std.specs.Ordering.{is_eq, nat_cmp}
use Rattle.std.specs.Cmp.Lexicographic.{slice_cmp}
use Rattle.runs.specs.Run.{ids_differ}
use Rattle.llb.proofs.WellFormedSteps.{are_new}
use Rattle.llb.proofs.well_formed.names_differ.Given as goal

abbrev pub invariant-loop-item : goal.invariant-loop-item
invariant-loop-item g l =
    ids_differ (map g.T.Named.name_of l.items)
    ≡ are_new (λ q. list_any (λ key. is_eq (slice_cmp nat_cmp q key.now)) l.seen.keys) (map g.T.Named.name_of (drop l.item-index l.items))
