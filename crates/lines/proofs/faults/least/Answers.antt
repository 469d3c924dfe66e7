use Rattle.std.proofs.Common.{List, subst, sym, take}
use Rattle.std.proofs.lemmas.List.{take_more}
use Rattle.plain.specs.declared.refusal.Refusal.{Refusal}
use Rattle.lines.specs.Faults.{IsLeast}
use Rattle.lines.proofs.faults.least.Goals as goal

pub loop-fault-preserved : goal.loop-fault-preserved
loop-fault-preserved c =
    subst (λ (told : List Refusal). IsLeast told c.keep_lesser.result) (sym (take_more c.args.faults.now c.loop-fault.fault-index _ c.loop-fault-test.true))
    (c.keep_lesser.ensures (take c.loop-fault.fault-index c.args.faults.now) c.loop-fault.invariant)
