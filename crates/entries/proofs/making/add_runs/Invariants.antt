use Rattle.std.proofs.Common.{◌≡◌, ◌++◌, List, Vec, Global, Result, flat_map}
use Rattle.std.specs.List.{AllZip}
use Rattle.std.specs.Vec.Iter.{into_iter_items}
use Rattle.plain.specs.declared.fault.Fault.{Fault}
use Rattle.strict.specs.declared.fault.NotRead.{NotRead}
use Rattle.trees.specs.Row.{Row}
use Rattle.entries.proofs.MadeFacts.{HasMade}
use Rattle.entries.proofs.making.add_runs.Given as goal

-- the runs so far have rows, which were added in order
abbrev pub invariant-loop-run : goal.invariant-loop-run
invariant-loop-run g l = (so_far : List (Result (Vec Row Global) (Fault NotRead))) × (made : List (Vec Row Global)) × (l.fn.runs.items ≡ so_far ++ into_iter_items l.run-iterator) × AllZip HasMade so_far made × (g.S.TakesRows.rows l.rows ≡ g.S.TakesRows.rows l.initial.rows ++ flat_map (λ rows. rows.items) made)
