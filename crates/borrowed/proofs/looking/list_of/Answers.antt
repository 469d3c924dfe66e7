use Rattle.std.proofs.Common.{◌≡◌, Some, ap, sym, ◌∙◌}
use Rattle.serde_json.specs.Data.{array}
use Rattle.serde_json.specs.Find.{as_array}
use Rattle.borrowed.specs.Lent.{items_data}
use Rattle.borrowed.specs.Seen.{data_of}
use Rattle.borrowed.proofs.SeenFacts.{data-Array, seen_items-view}
use Rattle.borrowed.proofs.looking.list_of.Goals as goal

pub returns-in-Array : goal.returns-in-Array
returns-in-Array c =
    let vs = c.in-Array.values in
    let is : data_of c.args.value.now ≡ array (items_data vs.items) = ap data_of c.in-Array.is ∙ data-Array vs ∙ ap array (seen_items-view vs.items) in
    ap (λ xs. Some (items_data xs)) c.as_slice.ensures.value ∙ sym (ap as_array is)
