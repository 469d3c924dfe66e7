use Rattle.std.proofs.Common.{List, ℕ, ap, map, subst, sym}
use Rattle.std.proofs.lemmas.List.{take_all}
use Rattle.std.specs.Option.{option_copied}
use Rattle.nearest.specs.PrivateNearness.{IsBest}
use Rattle.nearest.proofs.NearestLaws.{IsBest-next, nearest-is}
use Rattle.nearest.proofs.nearness.nearest.Goals as goal

pub loop-name-preserved : goal.loop-name-preserved
loop-name-preserved c =
    IsBest-next c.args.word.now (λ it. it.now) c.args.names.now c.loop-name.name-index _ (option_copied c.loop-name.best) (option_copied c.in_ok-best.best)
    c.loop-name-test.true c.in_ok-best.ensures c.loop-name.invariant

pub returns : goal.returns
returns c =
    let names = c.args.names.now in
    let whole = ap (map (λ it. it.now)) (take_all c.loop-name.name-index names c.loop-name-test.false) in
    sym (nearest-is c.args.word.now (map (λ it. it.now) names) (option_copied c.loop-name.best)
    (subst (λ (all : List (List ℕ)). IsBest c.args.word.now all (option_copied c.loop-name.best)) whole c.loop-name.invariant))
