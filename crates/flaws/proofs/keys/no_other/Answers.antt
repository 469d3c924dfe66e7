use Rattle.std.proofs.Common.{◌≡◌, None, Some, IfOk, map, ap, sym, ◌∙◌, subst}
use Rattle.strict.specs.Gives.{TellsFault}
use Rattle.strict.specs.Strict.{rows_in}
use Rattle.borrowed.specs.Seen.{data_of}
use Rattle.flaws.specs.Looks.{first_key, is_among, no_other}
use Rattle.flaws.specs.PrivateRows.{looked}
use Rattle.flaws.proofs.RowFacts.{keys_found, no_keys_found}
use Rattle.flaws.proofs.keys.no_other.Goals as goal

pub returns-in-Ok : goal.returns-in-Ok
returns-in-Ok c =
    let known = is_among (map (λ k. k.now) c.args.known.now) in
    let found : first_key known (map (λ row. row.0) c.as_slice.result.now) ≡ no_other (map (λ k. k.now) c.args.known.now) (data_of c.args.value.now) =
    ap (λ rows. first_key known (map (λ row. row.0) rows)) c.as_slice.ensures ∙ keys_found (λ d. None) known (data_of c.args.value.now) c.in-Ok.rows c.in-Ok.ensures in
    subst (λ way. IfOk c.first_other.result (λ found. found ≡ way)) found c.first_other.ensures

pub returns-in-Err-Because : goal.returns-in-Err-Because
returns-in-Err-Because c =
    let none = subst (λ fault. TellsFault fault (rows_in (λ d. Some (looked None)) (data_of c.args.value.now))) c.in-Err-Because.field-0-is c.in-Err-Because.ensures in
    ap Some c.new.ensures ∙ sym (no_keys_found _ (λ d. None) (is_among (map (λ k. k.now) c.args.known.now)) (data_of c.args.value.now) none)
