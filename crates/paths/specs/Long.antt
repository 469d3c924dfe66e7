-- Paths that may be deeper than the limit.
use Rattle.std.specs.Prelude.{◌≡◌, ℕ, true, List}
use Rattle.std.specs.List.{list_all}
use Rattle.paths.specs.Path.{is_name, are_short}

-- names of at most 255 bytes each, however many (own)
pub record AreNames (p : List (List ℕ)) : Type 0 where
  pub names : list_all is_name p ≡ true
  pub short : are_short p ≡ true
