use Rattle.std.proofs.Common.{◌≤◌, ◌+◌, map, length}
use Rattle.plain.specs.Limits.{most_vertices}
use Rattle.definition.proofs.ReadingFacts.{IsReading, said}
use Rattle.definition.proofs.reading.read_operations.Given as goal

abbrev pub invariant-loop-value : goal.invariant-loop-value
invariant-loop-value l =
    IsReading l.known (map (said l.says_lines) l.value-iterator.rest.items) (map (said l.says_lines) l.initial.value-iterator.rest.items)
    × (length l.known.vertices + length l.value-iterator.rest.items ≤ most_vertices)
