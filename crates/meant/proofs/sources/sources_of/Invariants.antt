use Rattle.std.proofs.Common.{◌≡◌, ◌++◌, drop, map}
use Rattle.std.specs.List.{filter_map}
use Rattle.meant.specs.Sources.{source_in}
use Rattle.meant.proofs.sources.sources_of.Given as goal

-- the names so far with those of the words that are left are all
abbrev pub invariant-loop-word : goal.invariant-loop-word
invariant-loop-word l =
    map (λ name. name.now) l.names.items ++ filter_map source_in (map (λ word. word.now) (drop l.word-index l.words)) ≡ filter_map source_in (map (λ word. word.now) l.words)
