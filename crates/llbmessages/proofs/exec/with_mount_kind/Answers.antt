use Rattle.std.proofs.Common.{◌≡◌, ◌++◌, ◌∷◌, [], List, subst, ap, ◌∙◌, IfOk, append_assoc, sym}
use Rattle.wire.specs.Fields.{Field, number}
use Rattle.wire.specs.Kinds.{message_field}
use Rattle.llbmessages.specs.Exec.{cache_fields, mount_kind_fields}
use Rattle.llbmessages.proofs.exec.with_mount_kind.Goals as goal

pub returns-in_ok-with_set_number-in-Cache : goal.returns-in_ok-with_set_number-in-Cache
unfolding mount_kind_fields
returns-in_ok-with_set_number-in-Cache c =
    let cache = message_field 20 (cache_fields c.in-Cache.cache) in
    let same = ap (λ fields. fields ++ cache) c.in_ok-with_set_number-in-Cache.ensures ∙ (append_assoc c.args.message (number 6 3 ∷ []) cache
    ∙ ap (λ kind. c.args.message ++ mount_kind_fields kind) (sym c.in-Cache.is)) in
    subst (λ (fields : List Field). IfOk c.with_encoded.result (λ message. message ≡ fields)) same c.with_encoded.ensures
