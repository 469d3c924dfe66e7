use Rattle.std.proofs.Common.{◌≡◌, ◌↔◌, ℕ, List, true, take}
use Rattle.contexts.specs.Left.{IsGap, has_path, is_over}
use Rattle.contexts.proofs.left.gaps.Given as goal

-- the set has the gaps at the paths so far or above them
abbrev pub invariant-loop-path : goal.invariant-loop-path
invariant-loop-path l = (q : List (List ℕ)) → (has_path l.found.keys q ≡ true) ↔ (IsGap l.tree q × (is_over (take l.path-index l.paths) q ≡ true))
