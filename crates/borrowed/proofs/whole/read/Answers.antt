use Rattle.std.proofs.Common.{◌≡◌, true, false, sym, ◌∙◌}
use Rattle.json.specs.Value.{value_view}
use Rattle.borrowed.specs.PrivateRange.{in_range}
use Rattle.borrowed.proofs.SeenFacts.{read-in_range, read-out_of_range}
use Rattle.borrowed.proofs.whole.read.Goals as goal

pub returns-then-is_in_range : goal.returns-then-is_in_range
returns-then-is_in_range c =
    let j = value_view c.in_ok-value.value in
    let fits : in_range j ≡ true = sym c.is_in_range.ensures ∙ c.if-is_in_range.true in
    read-in_range c.args.text.now j c.in_ok-value.ensures fits

pub returns : goal.returns
returns c =
    let j = value_view c.in_ok-value.value in
    let lacks : in_range j ≡ false = sym c.is_in_range.ensures ∙ c.if-is_in_range.false in
    read-out_of_range c.args.text.now j c.in_ok-value.ensures lacks
