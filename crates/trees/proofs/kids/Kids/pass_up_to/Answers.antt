use Rattle.std.proofs.Common.{◌-◌, length, drop, sym, ap, ◌∙◌, arith}
use Rattle.std.proofs.lemmas.Bool.{ltb-true}
use Rattle.trees.specs.PrivateNode.{lists_of, flat}
use Rattle.trees.proofs.SeenSteps.{seen_kids-passed}
use Rattle.trees.proofs.kids.Kids.pass_up_to.Goals as goal

pub returns : goal.returns
returns c =
    let kids = c.self.inside in
    let passed = c.split_at.result.0.now in
    let some = ltb-true 0 (length passed) (sym c.in-Some.ensures.item.0) in
    record {
      some = some;
      few = omega (arith, c.min.ensures, c.split_at.ensures.front_len);
      last = _;
      left = ap (drop (length passed - 1)) (sym c.self.view_is) ∙ seen_kids-passed kids.options kids.begun.now passed c.split_at.result.1.now (flat (lists_of kids.parts.now)) c.in-Some.field-0.now c.split_at.ensures.by_index.0 some c.in-Some.ensures.item.1;
    }
