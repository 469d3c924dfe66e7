use Rattle.std.proofs.Common.{arith, sym, ◌∙◌}
use Rattle.reached.proofs.SpellSteps.{spell_none, spell_low, spell_over, spell_end}
use Rattle.reached.proofs.spelling.spell_out.Goals as goal

pub unreachable-requires : goal.unreachable-requires
unreachable-requires c =
    spell_none c.args.vertices.now c.requires.vertices c.loop-at.at c.index.result c.index-in-loop-at.result c.index-vertices-index.result
    c.index-vertices-index-in-loop-at.result c.as_slice.result.now c.loop-at.invariant.inside c.index.ensures c.index-in-loop-at.ensures
    (sym c.is_merge.ensures ∙ c.loop-at-test.true) c.as_slice.ensures c.in_default.len_below

pub loop-at-smaller : goal.loop-at-smaller
loop-at-smaller c =
    spell_low c.args.vertices.now c.requires.vertices c.loop-at.at c.index.result c.index-in-loop-at.result c.index-vertices-index.result
    c.index-vertices-index-in-loop-at.result c.as_slice.result.now c.below-item.result c.loop-at.invariant.inside c.index.ensures
    c.index-in-loop-at.ensures (sym c.is_merge.ensures ∙ c.loop-at-test.true) c.as_slice.ensures c.in-len1-up.len_at_least c.below-item.is

pub loop-at-preserved : goal.loop-at-preserved
loop-at-preserved c =
    let low = loop-at-smaller c in
    record {
      inside = omega (arith, low, c.loop-at.invariant.inside);
      spelled = spell_over c.args.vertices.now c.requires.vertices c.loop-at.at c.index.result c.index-in-loop-at.result c.index-vertices-index.result
          c.index-vertices-index-in-loop-at.result c.as_slice.result.now _ c.loop-at.flat.items c.push_reversed-in-loop-at.new.list.items
          c.below-item.result c.loop-at.invariant.inside c.index.ensures c.index-in-loop-at.ensures (sym c.is_merge.ensures ∙ c.loop-at-test.true)
          c.as_slice.ensures c.in-len1-up.len_at_least c.below-item.is c.loop-at.invariant.spelled c.in_ok-push_reversed-2.ensures;
    }

pub returns : goal.returns
returns c =
    spell_end c.args.vertices.now c.requires.vertices c.loop-at.at c.index.result c.index-vertices-index.result _ c.loop-at.flat.items
    c.push.new.self.items c.reverse.new.self.items c.from_vec.result c.loop-at.invariant.inside c.index.ensures
    (sym c.is_merge.ensures ∙ c.loop-at-test.false) c.loop-at.invariant.spelled c.in_ok-push.ensures.items c.reverse.ensures.items c.from_vec.ensures
