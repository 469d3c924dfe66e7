use Rattle.std.proofs.Common.{◌≡◌, ◌∙◌, List, ℕ, Some, ap, cond, sym}
use Rattle.std.specs.BTreeMap.{is_at}
use Rattle.std.specs.Map.{lookup}
use Rattle.std.specs.Option.{option_or}
use Rattle.std.specs.Vec.Iter.{into_iter_items}
use Rattle.paths.specs.Order.{name_cmp}
use Rattle.plans.specs.declared.images.Image.{Image}
use Rattle.stages.specs.declared.image_name.ImageName.{ImageName}
use Rattle.imageconfig.specs.declared.config.Config.{Config}
use Rattle.stubs.specs.Stubbing.{stub_if, is_named}
use Rattle.stubs.proofs.StubFacts.{stub_put}
use Rattle.stubs.proofs.stubbing.stubs_of.Goals as goal

pub loop-named-preserved : goal.loop-named-preserved
loop-named-preserved c = λ name.
    let old = lookup (is_at (name_cmp name)) c.loop-named.rows.entries in
    stub_put c.in-Some.named (into_iter_items c.next.new.self) name old _
    (c.in_ok-insert.ensures.updates.0 name ∙ ap (λ (image : Image Config). cond (is_at (name_cmp c.in-Some.named.name) name) (Some image) old) c.in_ok-image.ensures)
    ∙ (ap (λ (items : List ImageName). option_or (stub_if (is_named items name)) old) (sym c.in-Some.ensures.steps.0) ∙ c.loop-named.invariant name)
