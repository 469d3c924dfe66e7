use Rattle.std.proofs.Common.{[], refl, inl, subst}
use Rattle.program.specs.Saying.{Says, stream}
use Rattle.program.proofs.ending.say_named.Goals as goal

-- there was no memory to name the file
pub returns-in-Err : goal.returns-in-Err
returns-in-Err g c = record {
  told = [];
  is = inl refl;
  says = subst (λ text. Says text (stream (g.S.CountedWrite.contents c.args.errors.now) (g.S.CountedWrite.failures c.args.errors.now)) (stream (g.S.CountedWrite.contents c.say-in-Err.new.device) (g.S.CountedWrite.failures c.say-in-Err.new.device))) c.fault_line.ensures c.say-in-Err.ensures;
}
