use Rattle.std.proofs.Common.{◌≡◌, ◌+◌, ◌∷◌, drop, ap, sym, ◌∙◌, arith}
use Rattle.std.proofs.lemmas.List.{drop_more}
use Rattle.json.specs.Value.{members_view}
use Rattle.serde_json.specs.Data.{put}
use Rattle.borrowed.specs.PrivateRows.{rows_data}
use Rattle.borrowed.specs.Seen.{data_of, seen_members}
use Rattle.borrowed.proofs.RowFacts.{rows_data-insert_entry}
use Rattle.borrowed.proofs.lists.sort_members.Goals as goal

pub loop-member-preserved : goal.loop-member-preserved
loop-member-preserved c =
    let ms = c.args.members.now in
    let l = c.loop-member in
    let i = l.member-index in
    let m = c.member-item.result in
    let here : drop i ms ≡ m ∷ drop (i + 1) ms = drop_more ms i m (omega arith) ∙ ap (λ y. y ∷ drop (i + 1) ms) (sym c.member-item.is) in
    let inserted : rows_data c.insert.new.self.entries ≡ put m.0.now (data_of m.1) (rows_data l.sorted.entries) =
    ap rows_data c.in_ok-insert.ensures.entries ∙ rows_data-insert_entry l.sorted.entries _ _ in
    ap (seen_members (members_view (drop (i + 1) ms))) inserted ∙ sym (ap (λ ys. seen_members (members_view ys) (rows_data l.sorted.entries)) here) ∙ l.invariant
