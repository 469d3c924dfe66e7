use Rattle.std.proofs.Common.{◌∙◌, ◌-◌, Some, ap}
use Rattle.std.proofs.lemmas.Option.{get_or_from_slice_get}
use Rattle.reasons.specs.Leaving.{LeavesLine}
use Rattle.reasons.proofs.Known.{if_ok, text_at}
use Rattle.reasons.proofs.LeavingFacts.{line_left}
use Rattle.reasons.proofs.leaving.leaving_at.Goals as goal

pub returns : goal.returns
returns c =
    let known = c.known_line.ensures in
    let number = get_or_from_slice_get c.args.numbers.now c.args.position known.number _ known.numbered in
    if_ok c.leaving.result _ (λ left. LeavesLine c.args.file.now (Some c.args.position) left)
    (λ left is. line_left c.args.file.now c.args.numbers.now c.args.texts.now c.args.position c.args.exception known left _ _ number
    (text_at c.args.texts.now _ known.number known.text _ (c.saturating_sub.ensures ∙ ap (λ n. n - 1) number) known.cut) is) c.leaving.ensures
