use Rattle.std.proofs.Common.{◌+◌, ◌-◌, ◌*◌, ◌||◌, take, drop, nat_lt, refl, sym, ap, ◌∙◌, arith}
use Rattle.entries.specs.PrivatePrinting.{rows_text}
use Rattle.entries.proofs.TogetherFacts.{drop-behind, later-either}
use Rattle.entries.proofs.together.Share.print.Goals as goal

pub returns-clause-past : goal.returns-clause-past
returns-clause-past c = λ rows behind later at.
    let place = c.args.place in
    let first = drop-behind behind (place * 2048) (behind + place * 2048) rows _ at refl in
    let second = drop-behind (behind + place * 2048) 2048 (behind + place * 2048 + 2048) rows _ (c.skip_rows.ensures.left ∙ first) refl in
    let third = drop-behind (behind + place * 2048 + 2048) ((3 - 1 - place) * 2048) (behind + 3 * 2048) rows _ (c.print.ensures.left ∙ second) (omega arith) in
    record {
      left = c.skip_rows-self.ensures.left ∙ third;
      ended = λ no. sym (c.skip_rows-self.ensures.left ∙ third) ∙ c.skip_rows-self.ensures.ended no;
    }

pub returns-clause-block : goal.returns-clause-block
returns-clause-block c = λ rows behind later at whole.
    let place = c.args.place in
    let first = drop-behind behind (place * 2048) (behind + place * 2048) rows _ at refl in
    c.print.ensures.text whole
    ∙ ap (λ rs. rows_text c.is_later.result (take 2048 rs)) (c.skip_rows.ensures.left ∙ first)
    ∙ ap (λ after. rows_text after (take 2048 (drop (behind + place * 2048) rows)))
    (c.is_later.ensures ∙ ap (λ b. b || nat_lt 0 place) later ∙ later-either behind place)
