-- Flags (own).
use Rattle.std.specs.Prelude.{Bool, false, List, codes, bytes_eq}
use Rattle.std.specs.Option.{option_map_or}
use Rattle.clap.specs.Words.{Row, Text, first_of}

-- a flag is given: its first value is `true`, which is how clap keeps one
abbrev pub is_set : Text → List Row → Bool
is_set flag rows = option_map_or (λ text. bytes_eq text (codes "true")) (first_of flag rows) false
