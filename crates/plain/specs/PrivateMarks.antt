-- How marks are set, and when they are set on all that steps lead to (own). No public contract names these: crates state their own functions by them.
use Rattle.std.specs.Prelude.{◌≡◌, ◌⊎◌, ℕ, Bool, true, List, length}
use Rattle.plain.specs.Marks.{is_marked, IsReached}

-- marked is what was marked before, and these
pub record MarksMore (old new : List Bool) (These : ℕ → Type 0) : Type 0 where
  pub long : length new ≡ length old
  pub kept : (k : ℕ) → is_marked old k ≡ true → is_marked new k ≡ true
  pub marked : (k : ℕ) → These k → is_marked new k ≡ true
  pub only : (k : ℕ) → is_marked new k ≡ true → (is_marked old k ≡ true) ⊎ These k

-- the first one is marked, and with each number all that a step leads to from it, and only what is reached from the first one
pub record MarksReached (Step : ℕ → ℕ → Type 0) (size first : ℕ) (marks : List Bool) : Type 0 where
  pub long : length marks ≡ size
  pub has_first : is_marked marks first ≡ true
  pub closed : (from to : ℕ) → is_marked marks from ≡ true → Step from to → is_marked marks to ≡ true
  pub only : (to : ℕ) → is_marked marks to ≡ true → IsReached Step first to
