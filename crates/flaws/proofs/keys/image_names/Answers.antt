use Rattle.std.proofs.Common.{◌≡◌, None, Some, IfOk, map, ap, sym, ◌∙◌, subst}
use Rattle.bundle.specs.Parts.{is_image_name}
use Rattle.strict.specs.Gives.{TellsFault}
use Rattle.strict.specs.Strict.{rows_in}
use Rattle.borrowed.specs.Seen.{data_of}
use Rattle.flaws.specs.Looks.{first_key, keys}
use Rattle.flaws.specs.PrivateRows.{looked}
use Rattle.flaws.proofs.RowFacts.{keys_found, no_keys_found}
use Rattle.flaws.proofs.keys.image_names.Goals as goal

pub returns-in-Ok : goal.returns-in-Ok
returns-in-Ok c =
    let found : first_key is_image_name (map (λ row. row.0) c.as_slice.result.now) ≡ keys is_image_name (data_of c.args.value.now) =
    ap (λ rows. first_key is_image_name (map (λ row. row.0) rows)) c.as_slice.ensures ∙ keys_found (λ d. None) is_image_name (data_of c.args.value.now) c.in-Ok.rows c.in-Ok.ensures in
    subst (λ way. IfOk c.first_bad_name.result (λ found. found ≡ way)) found c.first_bad_name.ensures

pub returns-in-Err-Because : goal.returns-in-Err-Because
returns-in-Err-Because c =
    let none = subst (λ fault. TellsFault fault (rows_in (λ d. Some (looked None)) (data_of c.args.value.now))) c.in-Err-Because.field-0-is c.in-Err-Because.ensures in
    ap Some c.new.ensures ∙ sym (no_keys_found _ (λ d. None) is_image_name (data_of c.args.value.now) none)
