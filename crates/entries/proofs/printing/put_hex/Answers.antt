use Rattle.std.proofs.Common.{◌≡◌, length, sym, arith, rules}
use Rattle.counted.proofs.GatheringFacts.{says_none, says_both, says_as}
use Rattle.entries.proofs.PrintingFacts.{encode-pieces, encode-none}
use Rattle.entries.proofs.printing.put_hex.Goals as goal

pub loop-rest-preserved : goal.loop-rest-preserved
loop-rest-preserved g c = record {
  said = λ last rest.
      c.loop-rest.invariant.said last (says_as (says_both c.gather_piece.ensures.says rest)
      (sym (encode-pieces c.loop-rest.rest.now c.split_at.result.0.now c.split_at.result.1.now c.min.result c.split_at.ensures.front c.split_at.ensures.back)));
  room = c.gather_piece.ensures.room;
}

pub returns-clause-says : goal.returns-clause-says
returns-clause-says g c =
    let none : length c.loop-rest.rest.now ≡ 0 = first_of (omega arith, search rules, grind (arith)) in
    c.loop-rest.invariant.said _ (says_as (says_none _) (encode-none c.loop-rest.rest.now none))
