use Rattle.std.proofs.Common.{◌≡◌, ◌++◌, map, drop}
use Rattle.std.specs.Option.{option_map}
use Rattle.globs.specs.Glob.{all_parts_of}
use Rattle.globs.proofs.glob.read_components.Given as goal

-- what was read stands before what the other texts spell
abbrev pub invariant-loop-text : goal.invariant-loop-text
invariant-loop-text l =
    option_map (λ others. l.components.items ++ others) (all_parts_of (map (λ text. text.now) (drop l.text-index l.texts))) ≡ all_parts_of (map (λ text. text.now) l.texts)
