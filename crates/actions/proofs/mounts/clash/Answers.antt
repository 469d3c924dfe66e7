use Rattle.std.proofs.Common.{◌∙◌, rules, tests}
use Rattle.std.proofs.lemmas.Iterator.{YieldsList-from_slice, YieldsList-from_zip}
use Rattle.std.proofs.lemmas.Iterator.Search.{all_from_yields_List}
use Rattle.actions.proofs.ClashFacts.{are_same, clash_is}
use Rattle.actions.proofs.mounts.clash.Goals as goal

pub returns : goal.returns
returns c =
    all_from_yields_List are_same c.all.new.self _ _ c.all.ensures.ran (YieldsList-from_zip {s = c.zip.result} (YieldsList-from_slice c.args.these.now cc) (YieldsList-from_slice c.args.those.now cc)) (λ x b q k. search (rules, tests))
    ∙ clash_is c.args.these.now c.args.those.now
