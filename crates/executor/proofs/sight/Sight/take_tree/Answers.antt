use Rattle.std.proofs.Common.{◌∙◌, ap, sym, arith}
use Rattle.std.proofs.Math.ListN.{set}
use Rattle.std.proofs.lemmas.List.{set-set}
use Rattle.executor.proofs.SightLemmas.{bind_tree-mounted, bind_tree-beyond}
use Rattle.executor.proofs.sight.Sight.take_tree.Goals.{then-number-len+in_default, else-number-len}
use Rattle.executor.proofs.sight.Sight.take_tree.Goals as goal

pub returns-in-Some-clause-others : goal.returns-in-Some-clause-others
returns-in-Some-clause-others c = λ own.
    set-set c.self.inside.own.items c.args.number c.take.new.self own ∙ ap (λ sight. set sight.own c.args.number own) c.self.view_is

pub returns-clause-tree : goal.returns-clause-tree
returns-clause-tree c =
    let same = ap (λ sight. sight.own) c.self.view_is in
    elim c.if-number-len.branch [
      | then-number-len+in_default w ↦ rw (bind_tree-mounted c.args.self.now c.self.inside.own.items c.args.number c.args.bind.now w.index_mut.result.now same (omega arith) w.index_mut.ensures.value (sym w.take.ensures.value ∙ w.in_default.is)) c.copy.ensures
      | else-number-len w ↦ rw (bind_tree-beyond c.args.self.now c.self.inside.own.items c.args.number c.args.bind.now same (omega arith)) c.copy.ensures
    ]
