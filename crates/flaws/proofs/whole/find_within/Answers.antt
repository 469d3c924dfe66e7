use Rattle.std.proofs.Common.{Some, ap, sym, ◌∙◌, arith}
use Rattle.flaws.specs.declared.flaw.Flaw.TheVariants.{NoText}
use Rattle.flaws.proofs.WholeFacts.{flaw-text, flaw-none}
use Rattle.flaws.proofs.whole.find_within.Goals as goal

pub returns-in-Ok : goal.returns-in-Ok
returns-in-Ok g c =
    rw (flaw-text g.C.FromLentKeyed.reading c.args.most c.args.bytes.now (omega arith) c.in-Ok.ensures.cases.1, ← c.in-Ok.ensures.cases.0) c.find_in_text.ensures

pub returns-in-Err : goal.returns-in-Err
returns-in-Err g c =
    ap (λ n. Some (NoText n)) (c.valid_up_to.ensures ∙ c.in-Err.ensures.valid_len) ∙ sym (flaw-none g.C.FromLentKeyed.reading c.args.most c.args.bytes.now (omega arith) c.in-Err.ensures.cases.0)
