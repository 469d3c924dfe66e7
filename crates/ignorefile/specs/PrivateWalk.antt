-- Which exceptions may relate to paths below another one.
use Rattle.std.specs.Prelude.{ℕ, Bool, true, false, List, [], ◌∷◌, ◌&&◌, ◌||◌}
use Rattle.ignorefile.specs.declared.line.Line.{Line}
use Rattle.ignorefile.specs.declared.line.Segment.{Segment}
use Rattle.ignorefile.specs.Line.{holds, is_deep}

-- segments may relate to paths below this one: those that take its names leave some, or there is a `**` among them
abbrev pub may_reach : List Segment → List (List ℕ) → Bool
may_reach [] names = false
may_reach (segment ∷ segments) [] = true
may_reach (segment ∷ segments) (name ∷ names) = is_deep segment || (holds segment name && may_reach segments names)

-- the same of a line that is an exception
abbrev pub may_except_below : List (List ℕ) → Line → Bool
may_except_below names line = line.exception && may_reach line.segments names
