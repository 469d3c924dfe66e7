use Rattle.std.proofs.Common.{◌≡◌, false, [], refl, ◌∙◌, subst, sym}
use Rattle.cachemounts.specs.Holds.{is_holder, nobody, number_for}
use Rattle.cachemounts.proofs.HoldLemmas.{free_number-is, no-uses, takings-below}
use Rattle.cachemounts.proofs.holds.number_for.Goals as goal

pub returns-then-is_empty-clause-value : goal.returns-then-is_empty-clause-value
unfolding nobody
returns-then-is_empty-clause-value c =
    let none : c.args.uses.now ≡ [] = no-uses c.args.uses.now (sym c.is_empty.ensures ∙ c.if-is_empty.true) in
    subst (λ uses. 18446744073709551615 ≡ number_for c.args.holds.now uses) (sym none) refl

pub returns-then-is_empty-clause-free : goal.returns-then-is_empty-clause-free
unfolding nobody
returns-then-is_empty-clause-free c = c.requires

pub returns-clause-free : goal.returns-clause-free
returns-clause-free c = subst (λ number. is_holder number c.args.holds.now ≡ false) (sym c.free_number.ensures.value) (free_number-is c.args.holds.now).free

pub returns-clause-apart : goal.returns-clause-apart
unfolding nobody
returns-clause-apart c = takings-below c.free_number.result c.args.holds.now c.args.uses.now c.free_number.ensures.below
