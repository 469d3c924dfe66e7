use Rattle.std.proofs.Common.{◌≡◌, map, take}
use Rattle.command.proofs.reading.copy_texts.Given as goal

-- the texts so far are copied
abbrev pub invariant-loop-text : goal.invariant-loop-text
invariant-loop-text l = l.copies.items ≡ map (λ text. text.now) (take l.text-index l.texts)
