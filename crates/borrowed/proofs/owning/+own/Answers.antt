use Rattle.std.proofs.Common.{◌≡◌, ◌+◌, ◌<◌, ◌∷◌, drop, length, map, string_bytes, sym, ap, ◌∙◌, subst, arith, rules, take_all}
use Rattle.std.proofs.lemmas.List.{drop_more, at_drop_all}
use Rattle.json.specs.Tree.{json_tokens, items_tokens, members_tokens}
use Rattle.json.specs.Value.{value_view, items_view as items_lent, members_view as members_lent}
use Rattle.json.proofs.Trees.{item_smaller, member_smaller}
use Rattle.serde_json.specs.Data.{object, put, no_members}
use Rattle.serde_json.specs.View.{view, items_of, members_view}
use Rattle.serde_json.proofs.Views.{view-Object, members_view-insert_entry}
use Rattle.borrowed.specs.Seen.{data_of, seen_members}
use Rattle.borrowed.proofs.SeenFacts.{data-Object, seen_items-view}
use Rattle.borrowed.proofs.owning.+own.Goals as goal

pub owned-returns-in_ok-owned_members-in-Object : goal.owned-returns-in_ok-owned_members-in-Object
owned-returns-in_ok-owned_members-in-Object t c =
    let ms = c.in-Object.members in
    let copies = c.in_ok-owned_members-in-Object in
    let is : data_of c.args.value.now ≡ object (seen_members (members_lent ms.items) no_members) = ap data_of c.in-Object.is ∙ data-Object ms in
    view-Object copies.field-0 ∙ ap object (copies.ensures ∙ ap (λ xs. seen_members (members_lent xs) no_members) c.deref-in-Object.ensures.value) ∙ sym is

pub owned_items-owned-requires : goal.owned_items-owned-requires
owned_items-owned-requires t c =
    let xs = c.args.values.now in
    let x = c.value-item.result in
    let smaller : length (json_tokens (value_view x)) < length (items_tokens (items_lent xs)) =
    subst (λ y. length (json_tokens (value_view y)) < length (items_tokens (items_lent xs))) (sym c.value-item.is) (item_smaller xs c.loop-value.value-index x (omega arith)) in
    search rules

pub owned_items-returns : goal.owned_items-returns
owned_items-returns t c =
    let l = c.loop-value in
    let xs = c.args.values.now in
    ap items_of (l.invariant ∙ ap (map data_of) (take_all l.value-index xs (omega arith))) ∙ sym (seen_items-view xs)

pub owned_members-owned-requires : goal.owned_members-owned-requires
owned_members-owned-requires t c =
    let xs = c.args.members.now in
    let x = c.member-item.result in
    let smaller : length (json_tokens (value_view x.1)) < length (members_tokens (members_lent xs)) =
    subst (λ y. length (json_tokens (value_view y.1)) < length (members_tokens (members_lent xs))) (sym c.member-item.is) (member_smaller xs c.loop-member.member-index x (omega arith)) in
    search rules

pub owned_members-loop-member-preserved : goal.owned_members-loop-member-preserved
owned_members-loop-member-preserved t c =
    let xs = c.args.members.now in
    let l = c.loop-member in
    let i = l.member-index in
    let m = c.member-item.result in
    let here : drop i xs ≡ m ∷ drop (i + 1) xs = drop_more xs i m (omega arith) ∙ ap (λ y. y ∷ drop (i + 1) xs) (sym c.member-item.is) in
    let before = members_view l.copies.entries in
    let named : string_bytes c.in_ok-key.key ≡ m.0.now = search rules in
    let inserted : members_view c.insert.new.self.entries ≡ put m.0.now (data_of m.1) before =
    ap members_view c.in_ok-insert.ensures.entries ∙ members_view-insert_entry l.copies.entries c.in_ok-key.key c.in_ok-copy.copy
    ∙ ap (λ k. put k (view c.in_ok-copy.copy) before) named ∙ ap (λ d. put m.0.now d before) c.in_ok-copy.ensures in
    ap (seen_members (members_lent (drop (i + 1) xs))) inserted ∙ sym (ap (λ ys. seen_members (members_lent ys) before) here) ∙ l.invariant

pub owned_members-returns : goal.owned_members-returns
owned_members-returns t c =
    let xs = c.args.members.now in
    let l = c.loop-member in
    let before = members_view l.copies.entries in
    sym (at_drop_all (λ ys. seen_members (members_lent ys) before) xs l.member-index (omega arith)) ∙ l.invariant
