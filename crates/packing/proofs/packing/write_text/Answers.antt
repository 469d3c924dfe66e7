use Rattle.std.proofs.Common.{◌≡◌, ◌++◌, ◌∷◌, [], sym, subst, rules}
use Rattle.packing.specs.Ends.{Writes, of_edge}
use Rattle.packing.proofs.EndFacts.{failed_as, written_in_part}
use Rattle.packing.proofs.packing.write_text.Goals as goal

pub returns-in_err-write_all : goal.returns-in_err-write_all
returns-in_err-write_all g c =
    let failed = c.in_err-write_all.ensures in
    let fault = c.in_err-write_all.field-0.0 in
    let line = c.as_bytes.result.now in
    let text = c.args.text in
    let ends : line ≡ text ++ 10 ∷ [] = first_of (search rules, cc (c.as_bytes.ensures.value, c.as_str.ensures, c.in_ok-line.ensures), search (rules, c.as_bytes.ensures.value, c.as_str.ensures, c.in_ok-line.ensures)) in
    let ended = written_in_part text line (g.W.CountedWrite.contents c.args.output.now) (g.W.CountedWrite.failures c.args.output.now) (g.W.CountedWrite.contents c.write_all.new.output) (g.W.CountedWrite.failures c.write_all.new.output) fault ends failed.beginning failed.device failed.count in
    subst
    (Writes text (g.W.CountedWrite.contents c.args.output.now) (g.W.CountedWrite.failures c.args.output.now) (g.W.CountedWrite.contents c.write_all.new.output) (g.W.CountedWrite.failures c.write_all.new.output))
    (sym (failed_as c.from_residual-in_err-write_all.result (of_edge fault) c.from_residual-in_err-write_all.ensures.1)) ended
