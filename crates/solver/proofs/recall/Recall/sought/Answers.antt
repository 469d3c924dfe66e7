use Rattle.std.proofs.Common.{false}
use Rattle.solver.proofs.RecallLemmas.{found-kept, finding-of}
use Rattle.solver.proofs.recall.Recall.sought.Goals as goal

pub returns-in-Source : goal.returns-in-Source
returns-in-Source g c =
    let memo = c.self.inside.memo.now in
    let values = g.N.Numbering.values in
    finding-of values g.N.Numbering.recent g.N.Numbering.earlier c.args.vertex c.source_number.result c.source_number-in-Source.result false
    (found-kept values memo.recent.trees g.N.Numbering.recent c.args.vertex c.source_number.result c.args.tree.now c.self.invariant.1 c.source_number.ensures c.requires)
    (found-kept values memo.earlier.trees g.N.Numbering.earlier c.args.vertex c.source_number-in-Source.result c.args.tree.now c.self.invariant.2 c.source_number-in-Source.ensures c.requires)

pub returns-else-not-is_base_known : goal.returns-else-not-is_base_known
returns-else-not-is_base_known g c =
    let memo = c.self.inside.memo.now in
    let values = g.N.Numbering.values in
    finding-of values g.N.Numbering.recent g.N.Numbering.earlier c.args.vertex c.input_number.result c.input_number-in_default-op.result false
    (found-kept values memo.recent.trees g.N.Numbering.recent c.args.vertex c.input_number.result c.args.tree.now c.self.invariant.1 c.input_number.ensures c.requires)
    (found-kept values memo.earlier.trees g.N.Numbering.earlier c.args.vertex c.input_number-in_default-op.result c.args.tree.now c.self.invariant.2 c.input_number-in_default-op.ensures c.requires)
