use Rattle.std.proofs.Common.{arith, ◌≡◌, ◌+◌, ◌/◌, length, subst}
use Rattle.board.specs.PrivateNumbers.{IsFirst, HasNone, IsFirstLeaf}
use Rattle.board.proofs.NumberLemmas.{first-is, none-is}
use Rattle.board.proofs.number_set.NumberSet.first_from.Goals as goal

pub returns-then-first-bound-clause-found : goal.returns-then-first-bound-clause-found
returns-then-first-bound-clause-found c =
    let nodes = c.self.inside.nodes.items in
    let bound : c.len-bound.result / 2 ≡ length nodes / 2 = omega (arith, c.len-bound.ensures, c.self.inside.nodes.ok.0) in
    let leaf : IsFirstLeaf nodes (length nodes / 2 + c.args.from) c.first_leaf-first.result = rw (← bound, ← c.as_slice.ensures.value) c.first_leaf-first.ensures in
    subst (λ members. IsFirst members c.args.from c.first_leaf-first.result) c.self.view_is (first-is nodes c.args.from c.first_leaf-first.result c.self.invariant leaf (omega (arith, bound, c.if-first-bound.true)))

pub returns-else-first-bound-clause-none : goal.returns-else-first-bound-clause-none
returns-else-first-bound-clause-none c =
    let nodes = c.self.inside.nodes.items in
    let bound : c.len-bound.result / 2 ≡ length nodes / 2 = omega (arith, c.len-bound.ensures, c.self.inside.nodes.ok.0) in
    let leaf : IsFirstLeaf nodes (length nodes / 2 + c.args.from) c.first_leaf-first.result = rw (← bound, ← c.as_slice.ensures.value) c.first_leaf-first.ensures in
    subst (λ members. HasNone members c.args.from) c.self.view_is (none-is nodes c.args.from c.first_leaf-first.result c.self.invariant leaf (omega (arith, bound, c.if-first-bound.false)))
