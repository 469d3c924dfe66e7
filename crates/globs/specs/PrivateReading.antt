-- One step of a reading, as the function that makes it answers.
use Rattle.std.specs.Prelude.{◌≡◌, ℕ, Bool, true, false, Option, Some, None}
use Rattle.globs.specs.declared.sign.Sign.{Sign}
use Rattle.globs.specs.declared.reading.Reading.{Reading}
use Rattle.globs.specs.Reading.{step, between}

-- the reading goes on to new, or can't go on
abbrev pub Goes : Option Reading → Reading → Bool → Type 0
Goes next new true = next ≡ Some new
Goes next new false = next ≡ None

-- where one more character leads
abbrev pub Steps : Reading → Reading → ℕ → Bool → Type 0
Steps old new c fine = Goes (step old c) new fine

-- where it leads in a class, at the begin of an item
abbrev pub StepsBetween : Reading → Reading → Sign → ℕ → Bool → Type 0
StepsBetween old new sign c fine = Goes (between old sign c) new fine
