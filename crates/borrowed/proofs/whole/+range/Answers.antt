use Rattle.std.proofs.Common.{◌<◌, length, sym, subst, arith, rules}
use Rattle.json.specs.Tree.{json_tokens, items_tokens, members_tokens}
use Rattle.json.specs.Value.{value_view, items_view, members_view}
use Rattle.json.proofs.Trees.{item_smaller, member_smaller}
use Rattle.borrowed.proofs.whole.+range.Goals as goal

pub are_in_range-is_in_range-requires : goal.are_in_range-is_in_range-requires
are_in_range-is_in_range-requires t c =
    let xs = c.args.values.now in
    let x = c.value-item.result in
    let smaller : length (json_tokens (value_view x)) < length (items_tokens (items_view xs)) =
    subst (λ y. length (json_tokens (value_view y)) < length (items_tokens (items_view xs))) (sym c.value-item.is) (item_smaller xs c.loop-value.value-index x (omega arith)) in
    search rules

pub are_members_in_range-is_in_range-requires : goal.are_members_in_range-is_in_range-requires
are_members_in_range-is_in_range-requires t c =
    let xs = c.args.members.now in
    let x = c.member-item.result in
    let smaller : length (json_tokens (value_view x.1)) < length (members_tokens (members_view xs)) =
    subst (λ y. length (json_tokens (value_view y.1)) < length (members_tokens (members_view xs))) (sym c.member-item.is) (member_smaller xs c.loop-member.member-index x (omega arith)) in
    search rules
