use Rattle.std.proofs.Common.{◌≡◌, ◌+◌, ◌-◌, ℕ, List, suc, take, sym, ap, ◌∙◌, subst, arith}
use Rattle.counted.proofs.GatheringFacts.{says_none, says_both, says_as}
use Rattle.trees.specs.Rows.{entry_of}
use Rattle.entries.specs.PrivatePrinting.{rows_text}
use Rattle.entries.specs.PrivateFront.{HoldsNames}
use Rattle.entries.proofs.PrintingFacts.{rows-next, rows-end, drop-step, drop-end}
use Rattle.entries.proofs.HeldFacts.{holds-on}
use Rattle.entries.proofs.printing.put_rows.Goals as goal

pub go_to-requires : goal.go_to-requires
go_to-requires g c = holds-on c.loop-done.walk.at c.next.new.self.at c.names-in-loop-done.result.now c.loop-done.front c.loop-done.invariant.held c.next.ensures.keeps c.names-in-loop-done.ensures

pub loop-done-preserved : goal.loop-done-preserved
loop-done-preserved g c =
    let step = drop-step c.loop-done.done c.args.walk.now.left c.loop-done.walk.left c.next.new.self.left _ c.loop-done.invariant.left c.in-Some.ensures.next in
    let k = c.args.most - (c.loop-done.done + 1) in
    let more : suc k ≡ c.args.most - c.loop-done.done = omega arith in
    record {
      said = λ last rest.
          c.loop-done.invariant.said last (says_as (says_both c.put_row.ensures.says rest)
          (rows-next c.loop-done.later k c.loop-done.walk.left c.next.new.self.left c.next.new.self.at _ (entry_of c.in-Some.entry) c.in-Some.ensures.next c.names-in-loop-done-2.ensures
          ∙ ap (λ n. rows_text c.loop-done.later (take n c.loop-done.walk.left)) more));
      left = step.0;
      inside = omega (arith, step.1);
      held = subst (λ (at : List (List ℕ)). HoldsNames at c.go_to.new.self.names c.go_to.new.self) c.names-in-loop-done.ensures c.go_to.ensures;
      room = c.put_row.ensures.room;
    }

pub returns-in_default-clause-says : goal.returns-in_default-clause-says
returns-in_default-clause-says g c =
    c.loop-done.invariant.said _ (says_as (says_none _) (rows-end c.loop-done.later (c.args.most - c.loop-done.done) c.loop-done.walk.left c.in_default.ensures.next.0))

pub returns-in_default-clause-left : goal.returns-in_default-clause-left
returns-in_default-clause-left g c =
    c.in_default.ensures.next.1
    ∙ sym (drop-end c.loop-done.done c.args.most c.args.walk.now.left c.loop-done.walk.left c.loop-done.invariant.left c.in_default.ensures.next.0 (omega arith))
