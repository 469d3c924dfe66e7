-- A definition: the bytes of operations, and what is said of each (BuildKit's LLB, `Definition`, `OpMetadata`).
use Rattle.std.specs.Prelude.{ℕ, Option, option_map, List, ◌++◌}
use Rattle.std.specs.Option.{option_and_then}
use Rattle.wire.specs.Fields.{Field}
use Rattle.wire.specs.Messages.{message_bytes}
use Rattle.wire.specs.Kinds.{flag_field, texts_field, map_field, text_value, flag_value, message_value, flag_at, blocks_of, map_at, text_value_at, flag_value_at, message_at, read_as}
use Rattle.llbmessages.specs.declared.definition.OpMetadata.{OpMetadata}
use Rattle.llbmessages.specs.declared.definition.Definition.{Definition}

-- ---- written

-- the fields of what is said of an operation
unfoldable pub metadata_fields : OpMetadata → List Field
metadata_fields metadata =
    flag_field 1 metadata.ignore_cache ++ map_field text_value 2 metadata.description ++ map_field flag_value 5 metadata.caps

-- the fields of a definition
unfoldable pub definition_fields : Definition → List Field
definition_fields definition = texts_field 1 definition.ops ++ map_field (message_value metadata_fields) 2 definition.metadata

-- ---- read

-- what the fields of what is said of an operation are read as
unfoldable pub metadata_of : List Field → Option OpMetadata
metadata_of fields =
    option_and_then
    (λ description. option_map
    (λ caps. record { ignore_cache = flag_at 1 fields; description = description; caps = caps })
    (map_at flag_value_at 5 fields))
    (map_at text_value_at 2 fields)

-- what the fields of a definition are read as
unfoldable pub definition_of : List Field → Option Definition
definition_of fields =
    option_map (λ metadata. record { ops = blocks_of 1 fields; metadata = metadata }) (map_at (message_at (read_as metadata_of) 2) 2 fields)

-- the definition that bytes are read as
abbrev pub read_definition : List ℕ → Option Definition
read_definition = read_as definition_of

-- the bytes of a definition
abbrev pub definition_bytes : Definition → List ℕ
definition_bytes definition = message_bytes (definition_fields definition)
