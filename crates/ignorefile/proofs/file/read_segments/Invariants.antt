use Rattle.std.proofs.Common.{◌≡◌, ◌++◌, map, drop}
use Rattle.std.specs.Option.{option_map}
use Rattle.ignorefile.specs.File.{segments_of}
use Rattle.ignorefile.proofs.file.read_segments.Given as goal

-- what was read stands before what the other texts spell
abbrev pub invariant-loop-text : goal.invariant-loop-text
invariant-loop-text l =
    option_map (λ others. l.segments.items ++ others) (segments_of (map (λ text. text.now) (drop l.text-index l.texts))) ≡ segments_of (map (λ text. text.now) l.texts)
