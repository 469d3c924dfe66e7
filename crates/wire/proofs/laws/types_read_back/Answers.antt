use Rattle.std.proofs.Common.{ap, ◌∙◌, not, ◌==◌, ℕ, List, []}
use Rattle.std.specs.Int.{cast_unsigned, cast_signed, from_bool, w64}
use Rattle.wire.specs.Kinds.{last_or, bytes_field, texts_field}
use Rattle.wire.proofs.ReadLemmas.{number-among, bytes-among, last-number, last-int, last-flag, last-bytes, some_bytes, blocks-bytes, blocks-texts}
use Rattle.wire.proofs.laws.types_read_back.Goals as goal

pub returns-clause-number : goal.returns-clause-number
returns-clause-number c = λ key value before after none_before none_after.
    ap (last_or 0) (number-among key value before after none_before none_after) ∙ last-number value

pub returns-clause-int : goal.returns-clause-int
returns-clause-int c = λ key value before after fits none_before none_after.
    ap (λ (found : List ℕ). cast_signed w64 (last_or 0 found)) (number-among key (cast_unsigned w64 value) before after none_before none_after)
    ∙ last-int value fits

pub returns-clause-flag : goal.returns-clause-flag
returns-clause-flag c = λ key value before after none_before none_after.
    ap (λ (found : List ℕ). not (last_or 0 found == 0)) (number-among key (from_bool value) before after none_before none_after) ∙ last-flag value

pub returns-clause-bytes : goal.returns-clause-bytes
returns-clause-bytes c = λ key value before after none_before none_after.
    ap (last_or []) (bytes-among key (bytes_field key value) before after (some_bytes value) (blocks-bytes key key value) none_before none_after)
    ∙ last-bytes value

pub returns-clause-texts : goal.returns-clause-texts
returns-clause-texts c = λ key values before after none_before none_after.
    bytes-among key (texts_field key values) before after values (blocks-texts key key values) none_before none_after
