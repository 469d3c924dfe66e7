use Rattle.std.proofs.Common.{length, inl, inr, rules, arith, sym}
use Rattle.std.specs.List.{list_any}
use Rattle.cachemounts.specs.Holds.{holds_slot}
use Rattle.cachemounts.proofs.HoldLemmas.{first_free-at}
use Rattle.cachemounts.proofs.holds.lowest_free.Goals as goal

pub returns-then-not-is_slot_held : goal.returns-then-not-is_slot_held
returns-then-not-is_slot_held c =
    sym (first_free-at (λ slot. list_any (holds_slot c.args.id.now slot) c.args.holds.now) 0 (length c.args.holds.now) c.loop-slot.slot (omega arith) (omega (arith, c.loop-slot-test.true)) (λ k a b. c.loop-slot.invariant k b) (inl (search rules)))

pub returns : goal.returns
returns c =
    sym (first_free-at (λ slot. list_any (holds_slot c.args.id.now slot) c.args.holds.now) 0 (length c.args.holds.now) (length c.args.holds.now) (omega arith) (omega arith) (λ k a b. c.loop-slot.invariant k (omega (arith, b, c.loop-slot-test.false))) (inr (omega arith)))
