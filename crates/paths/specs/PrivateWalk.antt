-- What a reading keeps of the path that it has come to, so that it keeps no more than 64 components whatever the text is:
-- the first 64, and how many more there are.
use Rattle.std.specs.Prelude.{◌≡◌, ◌-◌, ℕ, List, length, take}
use Rattle.plain.specs.Limits.{most_components}

-- kept and beyond are what is kept of p
pub record IsWalk (kept : List (List ℕ)) (beyond : ℕ) (p : List (List ℕ)) : Type 0 where
  pub first : kept ≡ take most_components p
  pub more : beyond ≡ length p - most_components
