use Rattle.std.proofs.Common.{◌≡◌, ◌+◌, ◌*◌, ◌<◌, true, sym, ap, ◌∙◌, subst, take, drop, nat_lt, arith, rules, tests, length}
use Rattle.counted.proofs.GatheringFacts.{says_both, says_as}
use Rattle.entries.specs.PrivatePrinting.{rows_text}
use Rattle.entries.specs.PrivateTogether.{text_behind_rows, IsBlock}
use Rattle.entries.proofs.TogetherFacts.{block-then}
use Rattle.entries.proofs.together.put_round.Goals as goal

pub loop-place-preserved : goal.loop-place-preserved
loop-place-preserved g c =
    let place = c.loop-place.place in
    let block = c.index-blocks-place.result in
    let whole : block.is_whole ≡ true = first_of (search (rules, tests), grind (arith)) in
    record {
      said = λ rows behind are last rest.
          let at = behind + place * 2048 in
          let lt : place < 3 = omega (arith, are.count) in
          let is : IsBlock rows at block = subst (IsBlock rows at) (sym c.index-blocks-place.is) (are.each place block lt) in
          let text : block.text.items ≡ rows_text (nat_lt 0 at) (take 2048 (drop at rows)) = is whole in
          c.loop-place.invariant.said rows behind are last
          (says_as (says_both (says_as c.gather.ensures.says (c.as_slice.ensures.value ∙ text)) rest)
          (block-then rows at (behind + (place + 1) * 2048) 2048 (omega arith) (omega arith)));
      room = c.gather.ensures.room;
    }

pub returns-clause-says : goal.returns-clause-says
returns-clause-says g c = λ rows behind are last rest.
    let all : length c.args.blocks.now ≡ c.loop-place.place = omega arith in
    c.loop-place.invariant.said rows behind are last (says_as rest (ap (λ n. text_behind_rows rows (behind + n * 2048)) all))
