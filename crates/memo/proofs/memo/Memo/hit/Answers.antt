use Rattle.std.proofs.Common.{List, IfNone, sym, subst}
use Rattle.trees.specs.TreeMap.{TreeMap}
use Rattle.memo.specs.declared.number.Age.TheVariants.{Recent, Earlier}
use Rattle.memo.specs.Memo.{MemoValue, Holds}
use Rattle.memo.specs.Numbers.{AreKnown}
use Rattle.memo.specs.PrivateSought.{inputs_of}
use Rattle.memo.proofs.MemoLemmas.{lacks-both}
use Rattle.memo.proofs.NumberLemmas.{known-tells}
use Rattle.memo.proofs.memo.Memo.hit.Goals as goal

pub find-recent-requires-clause-known : goal.find-recent-requires-clause-known
find-recent-requires-clause-known g c =
    let trees : List TreeMap = inputs_of c.args.sought.now in
    let inside : MemoValue _ = record { executor = c.self.inside.executor.now; recent = c.self.inside.recent; earlier = c.self.inside.earlier; is_for_one_build = c.self.inside.is_for_one_build } in
    known-tells inside Recent c.args.sought.now.known.now trees (subst (λ m. AreKnown m c.args.sought.now.known.now trees) (sym c.self.view_is) c.requires.known)

pub find-requires-clause-known : goal.find-requires-clause-known
find-requires-clause-known g c =
    let trees : List TreeMap = inputs_of c.args.sought.now in
    let inside : MemoValue _ = record { executor = c.self.inside.executor.now; recent = c.self.inside.recent; earlier = c.self.inside.earlier; is_for_one_build = c.self.inside.is_for_one_build } in
    known-tells inside Earlier c.args.sought.now.known.now trees (subst (λ m. AreKnown m c.args.sought.now.known.now trees) (sym c.self.view_is) c.requires.known)

pub returns-in-None-clause-none : goal.returns-in-None-clause-none
returns-in-None-clause-none g c = λ walks.
    let trees : List TreeMap = inputs_of c.args.sought.now in
    let inside : MemoValue _ = record { executor = c.self.inside.executor.now; recent = c.self.inside.recent; earlier = c.self.inside.earlier; is_for_one_build = c.self.inside.is_for_one_build } in
    subst (λ m. IfNone c.find.result ((tree : TreeMap) → ¬ Holds m c.args.sought.now.op.now trees tree)) c.self.view_is
    (lacks-both inside c.args.sought.now.op.now trees c.find.result (c.in-None.ensures.none walks) (c.find.ensures.none walks))
