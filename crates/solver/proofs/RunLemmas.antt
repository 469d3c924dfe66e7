-- The vertex of a claim: its operation is well formed on as many trees as the claim has inputs, and uses as many caches as it has trees for.
use Rattle.std.proofs.Common.{◌≡◌, ◌∙◌, List, [], ◌∷◌, length, map, Some, suc, refl, sym, ap, subst}
use Rattle.std.specs.Prelude.{IsTrue, slice_get}
use Rattle.trees.specs.TreeMap.{TreeMap}
use Rattle.llb.specs.declared.vertex.Vertex.{Vertex}
use Rattle.llb.specs.WellFormed.{is_well_formed_on}
use Rattle.plans.specs.Plan.{Problem, caches_of}
use Rattle.board.specs.Claim.{ClaimValue, IsClaim}
use Rattle.board.specs.Problem.{IsProblem}
use Rattle.board.proofs.ProblemLemmas.{formed-there}

length-map : {X Y : Type 0} (f : X → Y) (xs : List X) → length (map f xs) ≡ length xs
length-map f [] = refl
length-map f (x ∷ xs) = ap suc (length-map f xs)

vertex-same : (problem : Problem) (claim : ClaimValue) (v : Vertex) (claimed : IsClaim problem claim) → slice_get problem.vertices claim.vertex ≡ Some v → claimed.vertex ≡ v
vertex-same problem claim v claimed there = (let f : Some claimed.vertex ≡ Some v = sym claimed.there ∙ there in cc)

-- the operation of a claim's vertex is well formed on the trees that are lent
pub claim-formed : {X : Type 0} (seen : X → TreeMap) (lent : List X) (problem : Problem) (claim : ClaimValue) (v : Vertex) → IsProblem problem → IsClaim problem claim → slice_get problem.vertices claim.vertex ≡ Some v → map seen lent ≡ claim.inputs → IsTrue (is_well_formed_on v.op (length lent))
claim-formed seen lent problem claim v is claimed there same =
    let count : length claim.inputs ≡ length lent = ap length (sym same) ∙ length-map seen lent in
    subst (λ n. IsTrue (is_well_formed_on v.op n)) count (subst (λ (w : Vertex). IsTrue (is_well_formed_on w.op (length claim.inputs))) (vertex-same problem claim v claimed there) (formed-there problem claim.vertex claimed.vertex claim.inputs is claimed.there claimed.inputs))

-- a claim has a tree for each cache that its vertex uses
pub claim-caches : (problem : Problem) (claim : ClaimValue) (v : Vertex) → IsClaim problem claim → slice_get problem.vertices claim.vertex ≡ Some v → length claim.caches ≡ length (caches_of v.op)
claim-caches problem claim v claimed there = claimed.caches ∙ ap (λ (w : Vertex). length (caches_of w.op)) (vertex-same problem claim v claimed there)
