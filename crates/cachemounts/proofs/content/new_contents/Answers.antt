use Rattle.std.proofs.Common.{◌≡◌, ◌+◌, ◌++◌, ◌∷◌, [], take, subst, sym, true, ◌∙◌, ap}
use Rattle.std.proofs.lemmas.List.{take_more}
use Rattle.cachemounts.specs.Content.{have_contents}
use Rattle.cachemounts.proofs.content.new_contents.Goals as goal

pub loop-hold-preserved : goal.loop-hold-preserved
loop-hold-preserved c =
    let more : take (c.loop-hold.hold-index + 1) c.args.holds.now ≡ take c.loop-hold.hold-index c.args.holds.now ++ c.hold-item.result ∷ [] = take_more c.args.holds.now c.loop-hold.hold-index c.hold-item.result c.loop-hold-test.true ∙ ap (λ t. take c.loop-hold.hold-index c.args.holds.now ++ t ∷ []) (sym c.hold-item.is) in
    record {
      empty = c.in_ok-add_missing.ensures.empty c.loop-hold.invariant.empty;
      have = subst (λ ts. have_contents (c.args.contents.now ++ c.add_missing.new.more.items) ts ≡ true) (sym more) (c.in_ok-add_missing.ensures.have (take c.loop-hold.hold-index c.args.holds.now) c.loop-hold.invariant.have);
    }
