-- What a walk of a tree of files knows of a path: the lines of the ignore file that decide of it (own).
use Rattle.std.specs.Prelude.{ℕ, List}
use Rattle.ignorefile.specs.declared.line.Line.{Line}

-- a path, and the lines that decide of it
pub record DecidedValue : Type 0 where
  pub lines : List Line
  pub path : List (List ℕ)
