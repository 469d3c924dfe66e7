use Rattle.std.proofs.Common.{◌∙◌, [], sym, ap, inl, refl, subst}
use Rattle.std.proofs.lemmas.List.{append-nil}
use Rattle.counted.specs.Edges.{line_of}
use Rattle.program.specs.Saying.{Says, stream}
use Rattle.program.proofs.saying.say_because.Goals as goal

-- there was no memory to say why
pub returns-in-Err : goal.returns-in-Err
returns-in-Err g c = record {
  told = [];
  is = inl refl;
  says = subst (λ text. Says text (stream (g.S.CountedWrite.contents c.args.device.now) (g.S.CountedWrite.failures c.args.device.now)) (stream (g.S.CountedWrite.contents c.say-in-Err.new.device) (g.S.CountedWrite.failures c.say-in-Err.new.device))) (c.requires.line ∙ sym (ap line_of (append-nil c.args.text.now))) c.say-in-Err.ensures;
}
