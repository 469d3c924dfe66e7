-- Sources are read as they were written.
use Rattle.std.proofs.Common.{◌≡◌, Some, option_map}
use Rattle.wire.specs.Kinds.{entry_fields, text_value, bytes_at, read_as, entry_of, text_value_at, map_at}
use Rattle.wire.proofs.ReadLemmas.{reads, last-bytes, each-back, text-entry-back, all_of}
use Rattle.llbmessages.specs.declared.source.SourceOp.{SourceOp}
use Rattle.llbmessages.specs.Source.{source_fields, source_of}

pub source-back : (source : SourceOp) → source_of (source_fields source) ≡ Some source
unfolding source_of source_fields
source-back source =
    let identifier : bytes_at 1 (source_fields source) ≡ source.identifier = simp reads (last-bytes source.identifier) in
    let attrs : map_at text_value_at 2 (source_fields source) ≡ Some source.attrs =
    simp reads (each-back (entry_fields text_value) (read_as (entry_of text_value_at)) source.attrs (all_of _ source.attrs text-entry-back)) in
    λ i. option_map (λ attrs. record { identifier = identifier i; attrs = attrs }) (attrs i)
