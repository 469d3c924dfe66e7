-- A source: a tree that no operation makes (BuildKit's LLB, `SourceOp`).
use Rattle.std.specs.Prelude.{ℕ, Option, option_map, List, ◌++◌}
use Rattle.wire.specs.Fields.{Field}
use Rattle.wire.specs.Kinds.{bytes_field, map_field, text_value, bytes_at, map_at, text_value_at, read_as}
use Rattle.llbmessages.specs.declared.source.SourceOp.{SourceOp}

-- the fields of a source
unfoldable pub source_fields : SourceOp → List Field
source_fields source = bytes_field 1 source.identifier ++ map_field text_value 2 source.attrs

-- what the fields of a source are read as
unfoldable pub source_of : List Field → Option SourceOp
source_of fields = option_map (λ attrs. record { identifier = bytes_at 1 fields; attrs = attrs }) (map_at text_value_at 2 fields)

-- the source that bytes are read as
abbrev pub read_source : List ℕ → Option SourceOp
read_source = read_as source_of
