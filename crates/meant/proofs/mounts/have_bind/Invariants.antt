use Rattle.std.proofs.Common.{◌≡◌, drop, map}
use Rattle.std.specs.List.{list_any}
use Rattle.meant.specs.Mounts.{is_bind}
use Rattle.meant.proofs.mounts.have_bind.Given as goal

-- the words that are left decide
abbrev pub invariant-loop-word : goal.invariant-loop-word
invariant-loop-word l = list_any is_bind (map (λ word. word.now) (drop l.word-index l.words)) ≡ list_any is_bind (map (λ word. word.now) l.words)
