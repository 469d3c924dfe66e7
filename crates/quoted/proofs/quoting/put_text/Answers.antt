use Rattle.std.proofs.Common.{◌≡◌, length, arith, rules}
use Rattle.counted.proofs.GatheringFacts.{says_none, says_both, says_as}
use Rattle.quoted.proofs.EscapeFacts.{escape-pieces, escape-none}
use Rattle.quoted.proofs.quoting.put_text.Goals as goal

pub loop-rest-preserved : goal.loop-rest-preserved
loop-rest-preserved g c = record {
  said = λ last rest.
      c.loop-rest.invariant.said last (says_as (says_both c.gather.ensures.says (says_both c.put_first-rest.ensures.says rest))
      (escape-pieces c.loop-rest.rest.now c.split_at.result.0.now c.split_at.result.1.now c.put_first-rest.result.now c.plain_front.result c.split_at.ensures.front c.split_at.ensures.back
      c.put_first-rest.ensures.rest c.plain_front.ensures.plain));
  room = c.put_first-rest.ensures.room;
}

pub returns-clause-says : goal.returns-clause-says
returns-clause-says g c =
    let none : length c.loop-rest.rest.now ≡ 0 = first_of (omega arith, search rules, grind (arith)) in
    c.loop-rest.invariant.said _ (says_as (says_none _) (escape-none c.loop-rest.rest.now none))
