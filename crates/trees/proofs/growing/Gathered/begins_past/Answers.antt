use Rattle.std.proofs.Common.{sym, ◌∙◌, length, take, ◌-◌}
use Rattle.trees.specs.PrivateNode.{lists_of}
use Rattle.trees.proofs.GatheredSteps.{before-first, last-split}
use Rattle.trees.proofs.growing.Gathered.begins_past.Goals as goal

pub returns-in-len1-up : goal.returns-in-len1-up
returns-in-len1-up c = λ t.
    let rows = c.as_slice.result.now in
    before-first c.self.inside.rows.items (take (length rows - 1) rows) c.args.self.now (lists_of c.self.inside.parts.items) c.args.name.now c.first-item.result c.self.view_is
    (last-split c.self.inside.rows.items rows c.first-item.result c.as_slice.ensures.value c.in-len1-up.len_at_least c.first-item.is) c.self.invariant.rise (sym c.lt.ensures ∙ t)
