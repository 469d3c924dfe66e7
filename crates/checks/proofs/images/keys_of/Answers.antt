use Rattle.std.proofs.Common.{◌≡◌, ◌∙◌, ℕ, IfOk, List, subst}
use Rattle.borrowed.specs.Seen.{data_of}
use Rattle.strict.specs.Gives.{TellsFault}
use Rattle.strict.specs.Strict.{rows_in}
use Rattle.checks.specs.PrivateImages.{unread}
use Rattle.checks.proofs.ImageFacts.{names_found, no_names}
use Rattle.checks.proofs.images.keys_of.Goals as goal

pub returns-in-Ok : goal.returns-in-Ok
returns-in-Ok c =
    subst (λ (keys : List (List ℕ)). IfOk c.names_of.result (λ names. names ≡ keys)) (names_found (data_of c.args.value.now) c.in-Ok.images c.in-Ok.ensures) c.names_of.ensures

pub returns-in-Err-Because : goal.returns-in-Err-Because
returns-in-Err-Because c =
    let none = subst (λ fault. TellsFault fault (rows_in unread (data_of c.args.value.now))) c.in-Err-Because.field-0-is c.in-Err-Because.ensures in
    c.new.ensures ∙ no_names (data_of c.args.value.now) none
