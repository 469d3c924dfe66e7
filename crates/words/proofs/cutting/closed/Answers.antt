use Rattle.std.proofs.Common.{sym, ◌∙◌, true≢false, refl}
use Rattle.words.proofs.PartLaws.{IsOpen-from, IsOpen-is}
use Rattle.words.proofs.cutting.closed.Goals as goal

pub returns-then-ends_open-clause-open : goal.returns-then-ends_open-clause-open
returns-then-ends_open-clause-open c = (refl, IsOpen-from c.args.escape c.args.text.now (sym c.ends_open.ensures ∙ c.if-ends_open.true))

pub returns-clause-open : goal.returns-clause-open
returns-clause-open c = λ is_open. true≢false (sym (IsOpen-is c.args.escape c.args.text.now is_open) ∙ sym c.ends_open.ensures ∙ c.if-ends_open.false)
