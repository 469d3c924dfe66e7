use Rattle.std.proofs.Common.{sym, subst}
use Rattle.memo.proofs.GrowLemmas.{grows-same, grows-on}
use Rattle.solver.specs.PrivateRemembering.{AreKept, Remembers}
use Rattle.solver.proofs.RememberLemmas.{remembers-same, remembers-on}
use Rattle.solver.proofs.remembering.remember_all.Goals as goal

pub loop-number-init : goal.loop-number-init
loop-number-init g c =
    let values = g.N.Numbering.values in
    remembers-same values c.args.memo.now c.in_ok-kept.kept.items (subst (λ ts. AreKept values ts c.in_ok-kept.kept.items) c.requires.recent c.in_ok-kept.ensures)

pub remember_vertex-requires-clause-kept : goal.remember_vertex-requires-clause-kept
remember_vertex-requires-clause-kept g c κs within =
    subst (λ vs. AreKept vs c.loop-number.memo.recent.trees c.loop-number.kept.items) c.requires.values c.loop-number.invariant.kept

pub loop-number-preserved : goal.loop-number-preserved
loop-number-preserved g c =
    let values = g.N.Numbering.values in
    remembers-on values c.args.memo.now c.loop-number.memo c.remember_vertex.new.memo c.remember_vertex.new.kept.items c.loop-number.invariant.grows
    (subst (λ vs. Remembers vs c.loop-number.memo c.remember_vertex.new.memo c.remember_vertex.new.kept.items) (sym c.requires.values) c.remember_vertex.ensures)

pub loop-number-preserved-then-is_remembered : goal.loop-number-preserved-then-is_remembered
loop-number-preserved-then-is_remembered g c = c.loop-number.invariant

pub returns-in_err-kept : goal.returns-in_err-kept
returns-in_err-kept g c = grows-same c.args.memo.now

pub returns-in_err-remember_vertex : goal.returns-in_err-remember_vertex
returns-in_err-remember_vertex g c =
    grows-on c.args.memo.now c.loop-number.memo c.remember_vertex.new.memo c.loop-number.invariant.grows c.remember_vertex.ensures.grows
