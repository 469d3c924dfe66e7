use Rattle.std.proofs.Common.{◌≡◌, map, take}
use Rattle.command.specs.Sources.{halves_of}
use Rattle.command.proofs.reading.cut_texts.Given as goal

-- the texts so far are cut
abbrev pub invariant-loop-text : goal.invariant-loop-text
invariant-loop-text l = l.pairs.items ≡ map (λ text. halves_of text.now) (take l.text-index l.texts)
