use Rattle.std.proofs.Common.{◌≡◌, ◌∙◌, ◌+◌, ◌∷◌, ◌++◌, [], map, take, ap, sym, rules}
use Rattle.std.proofs.lemmas.List.{take_more}
use Rattle.std.proofs.lemmas.Option.{get_or_from_slice_get}
use Rattle.board.proofs.CacheLemmas.{map_push}
use Rattle.solver.proofs.running.inputs_of.Goals as goal

pub loop-at-preserved : goal.loop-at-preserved
loop-at-preserved g c =
    let trees = c.args.claim.now.inputs in
    let at = c.loop-at.at in
    let here = get_or_from_slice_get trees at c.input.result.now c.input.result.now c.input.ensures in
    let more : take (at + 1) trees ≡ take at trees ++ c.input.result.now ∷ [] = take_more trees at c.input.result.now (search rules) ∙ ap (λ t. take at trees ++ t ∷ []) here in
    ap (λ ts. map (λ tree. tree.now) ts) c.in_ok-push.ensures.items
    ∙ (map_push (λ tree. tree.now) c.loop-at.inputs.items c.input.result ∙ (ap (λ ts. ts ++ c.input.result.now ∷ []) c.loop-at.invariant ∙ sym more))
