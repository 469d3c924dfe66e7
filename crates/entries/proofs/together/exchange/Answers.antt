use Rattle.std.proofs.Common.{◌+◌, ◌*◌, sym, ap, ◌∙◌, subst, arith}
use Rattle.entries.specs.declared.together.Share.{Share}
use Rattle.entries.specs.PrivateTogether.{IsBlock}
use Rattle.entries.proofs.TogetherFacts.{some_item}
use Rattle.entries.proofs.together.exchange.Goals as goal

pub returns : goal.returns
returns c = record {
  printed = λ rows behind have.
      let kept = c.loop-place.invariant in
      let any : Share = some_item c.args.shares.now (omega arith) in (
        record {
          count = kept.shares;
          each = λ i d lt.
              let same = kept.walks i d lt in
              let was = have.past.each i d lt in
              record { left = ap (λ walk. walk.left) same.0 ∙ was.left; ended = λ no. was.ended (sym same.1 ∙ no) };
        },
        record {
          count = kept.blocks;
          each = λ i d lt. subst (IsBlock rows (behind + i * 2048)) (sym (kept.given i d any (omega arith))) (have.each i any lt);
        },
      );
}
