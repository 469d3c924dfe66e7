use Rattle.std.proofs.Common.{◌≡◌, ap, sym, ◌∙◌, subst}
use Rattle.json.specs.Value.{members_view}
use Rattle.serde_json.specs.Data.{object, no_members}
use Rattle.strict.specs.Gives.{Gives}
use Rattle.strict.specs.Strict.{members_in, rows_in}
use Rattle.borrowed.specs.PrivateRows.{rows_data}
use Rattle.borrowed.specs.Seen.{data_of, seen_members}
use Rattle.borrowed.proofs.SeenFacts.{data-Object}
use Rattle.borrowed.proofs.lists.keyed_rows.Goals as goal

pub returns : goal.returns
unfolding rows_in
returns g c =
    let reading = g.T.FromLentKeyed.reading in
    let ms = c.in-Object.members in
    let is : data_of c.args.value.now ≡ object (seen_members (members_view ms.items) no_members) = ap data_of c.in-Object.is ∙ data-Object ms in
    let sorted : rows_data c.in_ok-sorted.sorted.entries ≡ seen_members (members_view ms.items) no_members =
    c.in_ok-sorted.ensures ∙ ap (λ xs. seen_members (members_view xs) no_members) c.as_slice.ensures.value in
    subst (λ o. Gives c.keyed_members.result o) (ap (members_in reading) sorted ∙ sym (ap (rows_in reading) is)) c.keyed_members.ensures
