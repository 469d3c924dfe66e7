-- A vertex put behind the others keeps a graph a graph, and what is entered of it.
use Rattle.std.specs.Prelude.{ℕ, Result, Ok, Err, List, [], ◌∷◌, IsTrue, length}
use Rattle.std.proofs.Common.{sym, subst}
use Rattle.plain.specs.declared.fault.Fault.{Fault}
use Rattle.plain.specs.declared.fault.Fault.TheVariants.{Because, Memory}
use Rattle.llb.specs.declared.index.Index.{Index}
use Rattle.llb.specs.declared.vertex.Vertex.{Vertex}
use Rattle.llb.specs.declared.fault.Full.{Full}
use Rattle.llb.specs.WellFormed.{is_well_formed}
use Rattle.llb.specs.Places.{AreLines}
use Rattle.llb.specs.Graph.{IsAfterInputs, IsNew, IsGraph}
use Rattle.llb.specs.Index.{IsIndexed}
use Rattle.llb.specs.PrivateIndex.{IsIndex}
use Rattle.llb.specs.PrivateLast.{IsLeft, PutsLast}
use Rattle.llb.proofs.GraphKept.{append_keeps}
use Rattle.llb.proofs.IndexKept.{longer_indexed}

-- nothing changed
left_keeps : (olds news : List Vertex) (before after : List (List ℕ)) (index : Index) → IsGraph (record { vertices = olds; places = before })
    → IsIndex index → IsIndexed olds index → IsLeft olds news before after
    → IsGraph (record { vertices = news; places = after }) × (IsIndex index × IsIndexed news index)
left_keeps olds news before after index graph is indexed left = rw (left.vertices, left.places) (graph, (is, indexed))

pub put_keeps : (olds news : List Vertex) (before after : List (List ℕ)) (v : Vertex) (lines : List ℕ) (index : Index) (result : Result ℕ (Fault Full))
    → IsGraph (record { vertices = olds; places = before }) → IsIndex index → IsIndexed olds index → IsAfterInputs (length olds) v
    → IsTrue (is_well_formed v) → AreLines lines → IsNew olds v → PutsLast olds news before after v lines result
    → IsGraph (record { vertices = news; places = after }) × (IsIndex index × IsIndexed news index)
put_keeps olds news before after v lines index (Ok id) graph is indexed inputs formed are fresh put = (
  append_keeps olds news before after v lines graph inputs formed are fresh put.room put.vertices put.places,
  (is, subst (λ (us : List Vertex). IsIndexed us index) (sym put.vertices) (longer_indexed olds (v ∷ []) index indexed)),
)
put_keeps olds news before after v lines index (Err (Because full)) graph is indexed inputs formed are fresh put =
    left_keeps olds news before after index graph is indexed put.1
put_keeps olds news before after v lines index (Err Memory) graph is indexed inputs formed are fresh put =
    left_keeps olds news before after index graph is indexed put
