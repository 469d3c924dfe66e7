-- Definitions are read as they were written.
use Rattle.std.proofs.Common.{◌≡◌, Some, option_map, refl, sym, ap, ◌∙◌, List, ℕ}
use Rattle.std.specs.Option.{option_and_then}
use Rattle.wire.specs.Kinds.{entry_fields, text_value, flag_value, message_value, blocks_of, flag_at, read_as, message_at, entry_of, text_value_at, flag_value_at, map_at}
use Rattle.wire.proofs.ReadLemmas.{reads, last-flag, fields-back, each-back, text-entry-back, flag-entry-back, message-entry-back, all_of}
use Rattle.llbmessages.specs.declared.definition.OpMetadata.{OpMetadata}
use Rattle.llbmessages.specs.declared.definition.Definition.{Definition}
use Rattle.llbmessages.specs.Definition.{metadata_fields, metadata_of, definition_fields, definition_of, read_definition, definition_bytes}

metadata-back : (metadata : OpMetadata) → metadata_of (metadata_fields metadata) ≡ Some metadata
unfolding metadata_of metadata_fields
metadata-back metadata =
    let ignore_cache : flag_at 1 (metadata_fields metadata) ≡ metadata.ignore_cache = simp reads (last-flag metadata.ignore_cache) in
    let description : map_at text_value_at 2 (metadata_fields metadata) ≡ Some metadata.description =
    simp reads (each-back (entry_fields text_value) (read_as (entry_of text_value_at)) metadata.description
    (all_of _ metadata.description text-entry-back)) in
    let caps : map_at flag_value_at 5 (metadata_fields metadata) ≡ Some metadata.caps =
    simp reads (each-back (entry_fields flag_value) (read_as (entry_of flag_value_at)) metadata.caps (all_of _ metadata.caps flag-entry-back)) in
    λ i. option_and_then
    (λ description. option_map (λ caps. record { ignore_cache = ignore_cache i; description = description; caps = caps }) (caps i))
    (description i)

fields_of_definition-back : (definition : Definition) → definition_of (definition_fields definition) ≡ Some definition
unfolding definition_of definition_fields
fields_of_definition-back definition =
    let ops : blocks_of 1 (definition_fields definition) ≡ definition.ops = simp reads refl in
    let metadata : map_at (message_at (read_as metadata_of) 2) 2 (definition_fields definition) ≡ Some definition.metadata =
    simp reads (each-back (entry_fields (message_value metadata_fields)) (read_as (entry_of (message_at (read_as metadata_of) 2))) definition.metadata
    (all_of _ definition.metadata (λ entry. message-entry-back metadata_fields (read_as metadata_of) entry
    (fields-back metadata_fields metadata_of entry.1 (metadata-back entry.1))))) in
    λ i. option_map (λ metadata. record { ops = ops i; metadata = metadata }) (metadata i)

pub definition-back : (definition : Definition) → read_definition (definition_bytes definition) ≡ Some definition
definition-back definition = fields-back definition_fields definition_of definition (fields_of_definition-back definition)

-- what a definition's bytes are read as
pub definition_read : (definition : Definition) (bytes : List ℕ) → bytes ≡ definition_bytes definition → read_definition bytes ≡ Some definition
definition_read definition bytes same = ap read_definition same ∙ definition-back definition

some-same : {A : Type 0} (this that : A) → Some this ≡ Some that → this ≡ that
some-same this that same = cc

pub definition-same : (this that : Definition) → definition_bytes this ≡ definition_bytes that → this ≡ that
definition-same this that same = some-same this that (sym (definition-back this) ∙ (ap read_definition same ∙ definition-back that))
