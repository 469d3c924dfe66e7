use Rattle.std.proofs.Common.{◌∙◌, sym, ap, subst}
use Rattle.memo.specs.Memo.{GenerationValue, AreLawful}
use Rattle.memo.proofs.MemoLemmas.{none-lawful}
use Rattle.memo.proofs.memo.Memo.forget.Goals as goal

pub invariant_of-self : goal.invariant_of-self
invariant_of-self g c =
    let out = g.E.Executor.out c.self.inside.executor.now in
    (none-lawful out c.replace.new.dest.entries (ap (λ (h : GenerationValue). h.entries) (c.replace.ensures.after ∙ c.new.ensures)), subst (λ (h : GenerationValue). AreLawful out h.entries) (sym c.replace.ensures.value) c.self.invariant.0)
