-- Lines one after another, up to the first that is refused.
use Rattle.std.specs.Prelude.{List, [], ◌∷◌, Result, Ok, Err}
use Rattle.expand.specs.declared.reason.Rejection.{Rejection}

-- a step after what there is so far; once something is refused, nothing after it counts
abbrev pub one_more : {X P : Type 0} → (P → X → Result P Rejection) → Result P Rejection → X → Result P Rejection
one_more step (Ok p) x = step p x
one_more step (Err refusal) x = Err refusal

-- steps one after another, up to the first that is refused
abbrev pub all_from : {X P : Type 0} → (P → X → Result P Rejection) → Result P Rejection → List X → Result P Rejection
all_from step so_far [] = so_far
all_from step so_far (x ∷ xs) = all_from step (one_more step so_far x) xs
