use Rattle.std.proofs.Common.{Some, ap, sym, ◌∙◌, subst}
use Rattle.strict.specs.Gives.{TellsFault}
use Rattle.strict.specs.Strict.{rows_in}
use Rattle.borrowed.specs.Seen.{data_of}
use Rattle.flaws.specs.PrivateRows.{looked}
use Rattle.flaws.proofs.RowFacts.{no_rows}
use Rattle.flaws.proofs.looking.rows.Goals as goal

pub returns-in-Err-Because : goal.returns-in-Err-Because
returns-in-Err-Because g c =
    let none = subst (λ fault. TellsFault fault (rows_in (λ d. Some (looked (g.L.Look.looks d))) (data_of c.args.value.now))) c.in-Err-Because.field-0-is c.in-Err-Because.ensures in
    ap Some c.new.ensures ∙ sym (no_rows _ g.L.Look.looks (data_of c.args.value.now) none)
