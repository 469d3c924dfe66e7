use Rattle.std.proofs.Common.{arith, sym, subst, List, ℕ}
use Rattle.ignorefile.specs.declared.line.Line.{Line}
use Rattle.ignorefile.specs.PrivateRanks.{IsDecided}
use Rattle.ignorefile.proofs.Deciding.{decided-below}
use Rattle.ignorefile.proofs.walk.FolderLines.rank_of.Goals as goal

pub returns-then-count_shared-above : goal.returns-then-count_shared-above
returns-then-count_shared-above c =
    subst (λ (l : List Line). IsDecided l c.args.path.now c.verdict_left.result) c.self.view_is
    (decided-below c.self.inside.lines.now c.components-above.result.now c.components-names.result.now c.args.path.now c.count_shared.result c.self.inside.rank c.verdict_left.result c.count_shared.ensures
    (let h = c.if-count_shared-above.true in omega arith) (let h = c.if-names-above.true in omega arith) c.components-names.ensures.value
    (subst (λ (x : List (List ℕ)). IsDecided c.self.inside.lines.now x c.self.inside.rank) (sym c.components-above.ensures.value) c.self.invariant.1) c.verdict_left.ensures)
