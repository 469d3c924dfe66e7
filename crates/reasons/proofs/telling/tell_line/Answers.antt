use Rattle.std.proofs.Common.{◌∙◌, ◌-◌, Some, ap}
use Rattle.std.proofs.lemmas.Option.{get_or_from_slice_get}
use Rattle.reasons.specs.Reasons.{TellsLine}
use Rattle.reasons.proofs.Known.{if_ok, line_told, text_at}
use Rattle.reasons.proofs.telling.tell_line.Goals as goal

pub returns : goal.returns
returns c =
    let known = c.known_line.ensures in
    let number = get_or_from_slice_get c.args.numbers.now c.args.position known.number _ known.numbered in
    if_ok c.decided.result _ (λ told. TellsLine c.args.file.now c.args.word.now (Some c.args.position) told)
    (λ told is. line_told c.args.file.now c.args.numbers.now c.args.texts.now c.args.position c.args.exception known c.args.word.now told _ _ number
    (text_at c.args.texts.now _ known.number known.text _ (c.saturating_sub.ensures ∙ ap (λ n. n - 1) number) known.cut) is) c.decided.ensures
