use Rattle.std.proofs.Common.{◌≡◌, ◌++◌, map, drop}
use Rattle.executor.proofs.JoinLemmas.{spaced}
use Rattle.executor.proofs.command.joined.Given as goal

abbrev pub invariant-loop-word : goal.invariant-loop-word
invariant-loop-word l =
    l.bytes.items ++ spaced (map (λ word. word.now) (drop l.word-index l.rest)) ≡ l.initial.bytes.items ++ spaced (map (λ word. word.now) l.rest)
