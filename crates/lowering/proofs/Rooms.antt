-- Room in a graph.
use Rattle.std.proofs.Common.{◌≡◌, ◌⊎◌, inl, inr, ◌<◌, ◌≤◌, ◌+◌, ℕ, zero, suc, List, [], ◌∷◌, ◌++◌, length, Some, refl, sym, ap, subst, arith, length-append}
use Rattle.std.specs.Prelude.{slice_get}
use Rattle.std.specs.FinMap.{len}
use Rattle.llb.specs.declared.op.Op.{Op}
use Rattle.llb.specs.declared.op.Op.TheVariants.{Source as SourceOp, Exec as ExecOp, Copy as CopyOp, MakeDirs as MakeDirsOp, Merge as MergeOp}
use Rattle.llb.specs.declared.vertex.Vertex.{Vertex}
use Rattle.llb.specs.Graph.{GraphValue, IsGraph, IsFound, IsAppended}
use Rattle.plain.specs.Limits.{most_vertices}
use Rattle.plans.specs.Sources.{SourcesValue, HasSource, HasSources}
use Rattle.lowering.specs.PrivateRoom.{keys, op_keys, others, op_others, HasRoom, Uses}
use Rattle.lowering.proofs.Counting.{sources_few}

one_op : (op : Op) → length (op_keys op) + op_others op ≡ 1
one_op (SourceOp source) = refl
one_op (ExecOp exec) = refl
one_op (CopyOp files) = refl
one_op (MakeDirsOp path) = refl
one_op MergeOp = refl

all_counted : (vs : List Vertex) → length vs ≡ length (keys vs) + others vs
all_counted [] = refl
all_counted (v ∷ vs) =
    let rest : length vs ≡ length (keys vs) + others vs = all_counted vs in
    let one : length (op_keys v.op) + op_others v.op ≡ 1 = one_op v.op in
    let joined : length (op_keys v.op ++ keys vs) ≡ length (op_keys v.op) + length (keys vs) = length-append (op_keys v.op) (keys vs) in
    omega arith

pub room_there : (sources : SourcesValue) (graph : GraphValue) (left : ℕ) → IsGraph graph → HasRoom sources graph left → length graph.vertices < most_vertices
room_there sources graph left is room =
    let few : length (keys graph.vertices) ≤ len sources.images + 2 = sources_few sources graph.vertices is.vertices room.known in
    omega (arith, few, all_counted graph.vertices, room.few, room.others)

pub room_less : (sources : SourcesValue) (graph : GraphValue) (more less : ℕ) → HasRoom sources graph more → less ≤ more → HasRoom sources graph less
room_less sources graph more less room le = record { few = room.few; known = room.known; others = omega (arith, room.others, le) }

others-append : (vs : List Vertex) (v : Vertex) → others (vs ++ v ∷ []) ≡ others vs + op_others v.op
others-append [] v = omega arith
others-append (u ∷ us) v = (let rest = others-append us v in omega (arith, rest))

last_cases : (vs : List Vertex) (v u : Vertex) (k : ℕ) → slice_get (vs ++ v ∷ []) k ≡ Some u → (slice_get vs k ≡ Some u) ⊎ (v ≡ u)
last_cases [] v u zero e = inr cc
last_cases [] v u (suc k) e = absurd cc
last_cases (w ∷ ws) v u zero e = inl e
last_cases (w ∷ ws) v u (suc k) e = last_cases ws v u k e

-- room is kept where an equal vertex stood, and where a vertex came
pub uses_found : (old new : GraphValue) (vertex : Vertex) (lines : List ℕ) (id : ℕ) → IsFound old new vertex lines id
    → Uses old new (λ s. HasSource s vertex.op) (op_others vertex.op)
uses_found old new vertex lines id found s left has room =
    let same : new.vertices ≡ old.vertices = ap (λ g. g.vertices) found.added in
    record { few = room.few; known = subst (HasSources s) (sym same) room.known; others = omega (arith, ap others same, room.others) }

pub uses_appended : (old new : GraphValue) (vertex : Vertex) (lines : List ℕ) (id : ℕ) → IsAppended old new vertex lines id
    → Uses old new (λ s. HasSource s vertex.op) (op_others vertex.op)
uses_appended old new vertex lines id appended s left has room =
    let same : new.vertices ≡ old.vertices ++ vertex ∷ [] = ap (λ g. g.vertices) appended.added in
    let known : HasSources s (old.vertices ++ vertex ∷ []) = λ k u e. elim (last_cases old.vertices vertex u k e) [
      | inl before ↦ room.known k u before
      | inr last ↦ subst (λ (x : Vertex). HasSource s x.op) last has
    ] in
    record {
      few = room.few;
      known = subst (HasSources s) (sym same) known;
      others = omega (arith, ap others same, others-append old.vertices vertex, room.others);
    }
