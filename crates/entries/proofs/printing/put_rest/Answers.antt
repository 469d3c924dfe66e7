use Rattle.std.proofs.Common.{◌≤◌, ap, arith, true, length}
use Rattle.std.proofs.lemmas.List.{length-drop}
use Rattle.counted.proofs.GatheringFacts.{says_both, says_as}
use Rattle.entries.specs.PrivatePrinting.{rest_text}
use Rattle.entries.proofs.PrintingFacts.{rows-split, rows-last}
use Rattle.entries.proofs.printing.put_rest.Goals as goal

pub saying-preserved : goal.saying-preserved
saying-preserved g c = record {
  said = λ last rest.
      c.saying.invariant.said last (says_as (says_both c.put_rows.ensures.says (says_as rest (ap (rest_text true) c.put_rows.ensures.left)))
      (rows-split 4096 c.saying.later c.saying.walk.left (omega arith)));
  room = c.put_rows.ensures.room;
}

pub saying-smaller : goal.saying-smaller
saying-smaller g c =
    let some : 4096 ≤ length c.saying.walk.left = c.put_rows.ensures.whole c.saying-test.true in
    omega (arith, length-drop 4096 c.saying.walk.left, ap length c.put_rows.ensures.left)

pub returns-clause-says : goal.returns-clause-says
returns-clause-says g c =
    c.saying.invariant.said _ (says_as (says_both c.put_rows.ensures.says c.gather.ensures.says)
    (rows-last 4096 c.saying.later c.saying.walk.left c.put_rows.new.walk.left (omega arith) c.put_rows.ensures.left (c.put_rows.ensures.ended c.saying-test.false)))
