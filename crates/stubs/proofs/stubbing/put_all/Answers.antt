use Rattle.std.proofs.Common.{◌≡◌, ◌∙◌, List, ℕ, Some, ap, cond, reverse, sym}
use Rattle.std.specs.BTreeMap.{is_at}
use Rattle.std.specs.FinMap.Entries.{find}
use Rattle.std.specs.Map.{lookup}
use Rattle.std.specs.Option.{option_or}
use Rattle.std.specs.Vec.Iter.{into_iter_items}
use Rattle.paths.specs.Order.{name_cmp}
use Rattle.plans.specs.declared.images.Image.{Image}
use Rattle.imageconfig.specs.declared.config.Config.{Config}
use Rattle.stubs.proofs.RowFacts.{all_rows, row_put}
use Rattle.stubs.proofs.stubbing.put_all.Goals as goal

pub loop-name-init : goal.loop-name-init
loop-name-init c = λ name. all_rows c.args.images _ name _ (c.into_iter-name-iterator.ensures.into_iter_gives.0 ∙ c.into_rows-name-items.ensures)

pub loop-name-preserved : goal.loop-name-preserved
loop-name-preserved c = λ name.
    let old = lookup (is_at (name_cmp name)) c.loop-name.rows.entries in
    row_put (c.in-Some.name, c.in-Some.image) (into_iter_items c.next.new.self) name old _ (c.in_ok-insert.ensures.updates.0 name)
    ∙ (ap (λ (items : List (List ℕ × Image Config)). option_or (find name_cmp name (reverse items)) old) (sym c.in-Some.ensures.steps.0) ∙ c.loop-name.invariant name)
