-- What is reached is marked.
use Rattle.std.proofs.Common.{◌≡◌, ◌<◌, inl, inr, ℕ, Bool, true, false, List, length, sym, ◌∙◌}
use Rattle.std.proofs.lemmas.Bool.{cases_lt, true≢false}
use Rattle.std.proofs.lemmas.List.{get_or_past}
use Rattle.plain.specs.Marks.{is_marked, IsPath}
use Rattle.plain.proofs.MarkFacts.{path_within}
use Rattle.llb.specs.declared.vertex.Vertex.{Vertex}
use Rattle.llb.specs.Reach.{HasInput}
use Rattle.reached.specs.Reached.{AreReached}

-- what is reached is marked
pub reached_marked : (vertices : List Vertex) (target : ℕ) (marks : List Bool) (path : List ℕ) (from to : ℕ) → AreReached vertices target marks
    → is_marked marks from ≡ true → IsPath (HasInput vertices) from path to → is_marked marks to ≡ true
reached_marked vertices target marks path from to are marked leads =
    path_within (HasInput vertices) (is_marked marks) from path to are.closed marked leads

pub marked_within : (marks : List Bool) (k : ℕ) → is_marked marks k ≡ true → k < length marks
marked_within marks k is = elim (cases_lt k (length marks)) [ inl lt ↦ lt | inr past ↦ absurd (true≢false (sym is ∙ get_or_past marks k false past)) ]
