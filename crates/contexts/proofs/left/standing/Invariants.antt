use Rattle.std.proofs.Common.{◌≡◌, ◌≤◌, ◌++◌, ℕ, List, true, take}
use Rattle.std.specs.Option.{is_some}
use Rattle.std.specs.FinMap.{get}
use Rattle.contexts.proofs.left.standing.Given as goal

-- the branch is what stands where the names so far lead, and all on the way stands
abbrev pub invariant-loop-name : goal.invariant-loop-name
invariant-loop-name l = record {
  depth : l.depth ≡ l.name-index;
  below : (rest : List (List ℕ)) → get l.branch rest ≡ get l.tree (take l.name-index l.names ++ rest);
  there : (n : ℕ) → n ≤ l.name-index → is_some (get l.tree (take n l.names)) ≡ true;
}
