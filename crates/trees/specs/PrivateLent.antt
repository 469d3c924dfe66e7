-- What children end as, once one of them was lent.
use Rattle.std.specs.Prelude.{◌≡◌, ℕ, List, Option, Result, Some}
use Rattle.std.specs.Borrow.{Fml, MutBor, LendsSo, LendsSoOk}
use Rattle.trees.specs.PrivateNode.{NodeValue, AreKids, IsGiven}
use Rattle.trees.specs.contracts.children.Children.{the_row}
use Rattle.trees.specs.contracts.node.Node as node
use Rattle.trees.specs.contracts.names.Names as names

-- the children end with the last value behind r as the child of the name
abbrev pub LendsKid : {E : Type 0} → MutBor (List (List ℕ × NodeValue)) → List ℕ → Result (MutBor NodeValue) E → Fml
LendsKid s name r = LendsSoOk the_row node.the_row s r (λ n w. AreKids s.now n name (Some w)) (λ n. n ≡ s.now)

-- the names of a part end with the last value behind r as the node of the name
abbrev pub LendsNode : MutBor (List (List ℕ × NodeValue)) → List ℕ → Option (MutBor NodeValue) → Fml
LendsNode s name r = LendsSo names.the_row node.the_row s r (λ n w. IsGiven name w s.now n) (λ n. n ≡ s.now)
