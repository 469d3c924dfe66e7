-- What a message that is being written is seen as.
use Rattle.std.specs.Prelude.{ℕ, List, [], unwrap_or}
use Rattle.wire.specs.Fields.{Field}
use Rattle.wire.specs.Messages.{read_message}

-- the fields that bytes spell, where they spell some (own)
unfoldable pub fields_in : List ℕ → List Field
fields_in bytes = unwrap_or (read_message bytes) []
