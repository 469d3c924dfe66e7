use Rattle.std.proofs.Common.{◌≡◌, ◌++◌, drop}
use Rattle.std.specs.String.{string_bytes}
use Rattle.std.specs.List.{flat_map}
use Rattle.flaws.specs.Places.{step_text, way_text}
use Rattle.flaws.proofs.placing.way_text.Given as goal

-- what is written with what is left is all
abbrev pub invariant-loop-step : goal.invariant-loop-step
invariant-loop-step l = string_bytes l.text ++ flat_map step_text (drop l.step-index l.way) ≡ way_text l.way
