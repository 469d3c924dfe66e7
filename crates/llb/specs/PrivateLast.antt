-- What putting a vertex behind others leaves (own).
use Rattle.std.specs.Prelude.{◌≡◌, ◌<◌, ℕ, List, [], ◌∷◌, ◌++◌, length, Result, Ok, Err}
use Rattle.plain.specs.Limits.{most_vertices}
use Rattle.plain.specs.declared.fault.Fault.{Fault}
use Rattle.plain.specs.declared.fault.Fault.TheVariants.{Because, Memory}
use Rattle.llb.specs.declared.vertex.Vertex.{Vertex}
use Rattle.llb.specs.declared.fault.Full.{Full}

-- there was room for the vertex, and it is the last one, with its lines
pub record IsPutLast (olds news : List Vertex) (before after : List (List ℕ)) (vertex : Vertex) (lines : List ℕ) (id : ℕ) : Type 0 where
  pub room : length olds < most_vertices
  pub last : id ≡ length olds
  pub vertices : news ≡ olds ++ vertex ∷ []
  pub places : after ≡ before ++ lines ∷ []

-- nothing changed
pub record IsLeft (olds news : List Vertex) (before after : List (List ℕ)) : Type 0 where
  pub vertices : news ≡ olds
  pub places : after ≡ before

-- what is answered: that it is there, or that nothing changed, since there were as many as may be or for want of memory
abbrev pub PutsLast : List Vertex → List Vertex → List (List ℕ) → List (List ℕ) → Vertex → List ℕ → Result ℕ (Fault Full) → Type 0
PutsLast olds news before after vertex lines (Ok id) = IsPutLast olds news before after vertex lines id
PutsLast olds news before after vertex lines (Err (Because full)) = (length olds ≡ most_vertices) × IsLeft olds news before after
PutsLast olds news before after vertex lines (Err Memory) = IsLeft olds news before after
