use Rattle.std.proofs.Common.{length, inl, inr, rules, arith, sym}
use Rattle.cachemounts.specs.Holds.{is_holder}
use Rattle.cachemounts.proofs.HoldLemmas.{first_free-at}
use Rattle.cachemounts.proofs.holds.free_number.Goals as goal

pub returns-then-not-is_holder-clause-value : goal.returns-then-not-is_holder-clause-value
returns-then-not-is_holder-clause-value c =
    sym (first_free-at (λ number. is_holder number c.args.holds.now) 0 (length c.args.holds.now) c.loop-number.number (omega arith) (omega (arith, c.loop-number-test.true)) (λ k a b. c.loop-number.invariant k b) (inl (search rules)))

pub returns-clause-value : goal.returns-clause-value
returns-clause-value c =
    sym (first_free-at (λ number. is_holder number c.args.holds.now) 0 (length c.args.holds.now) (length c.args.holds.now) (omega arith) (omega arith) (λ k a b. c.loop-number.invariant k (omega (arith, b, c.loop-number-test.false))) (inr (omega arith)))
