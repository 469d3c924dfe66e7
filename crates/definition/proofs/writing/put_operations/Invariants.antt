use Rattle.std.proofs.Common.{◌≡◌, map, drop, take, length}
use Rattle.serde_json.specs.View.{view}
use Rattle.definition.specs.Definition.{AreProper}
use Rattle.definition.proofs.TextFacts.{IsWriting}
use Rattle.definition.proofs.writing.put_operations.Given as goal

abbrev pub invariant-loop-place : goal.invariant-loop-place
invariant-loop-place l =
    (IsWriting l.known (map view l.values.items) (drop l.place l.vertices) l.vertices (drop l.place l.graph.places) l.graph.places × (length l.known ≡ l.place)) × AreProper (take l.place l.vertices)
