use Rattle.std.proofs.Common.{◌≡◌, map}
use Rattle.paths.specs.Reading.{cleaned}
use Rattle.globs.proofs.cutting.cut_components.Given as goal

-- the texts kept are the clean form of the pieces so far
abbrev pub invariant-loop-piece : goal.invariant-loop-piece
invariant-loop-piece l =
    (goal.iterator-loop-piece).can_next l.piece-iterator ×
    (goal.iterator-loop-piece).is_finite l.piece-iterator ×
    (map (λ text. text.now) l.kept.items ≡ cleaned (map (λ text. text.now) l.yielded))
