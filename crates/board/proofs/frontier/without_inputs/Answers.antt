use Rattle.std.proofs.Common.{◌∙◌, ◌==◌, ◌<◌, false, sym, arith, length, map}
use Rattle.std.proofs.lemmas.List.{ext_get_or, length-map, get_or-map}
use Rattle.board.proofs.frontier.without_inputs.Goals as goal

pub returns : goal.returns
returns c =
    let counts = c.args.counts.now in
    ext_get_or false c.loop-number.available (map (λ count. count == 0) counts) (c.loop-number.invariant.long ∙ sym (length-map counts (λ count. count == 0))) (λ k l. let within : k < length counts = omega (arith, l, c.loop-number.invariant.long) in c.loop-number.invariant.passed k (omega (arith, within, c.loop-number-test.false)) ∙ sym (get_or-map (λ count. count == 0) counts k 0 false within))
