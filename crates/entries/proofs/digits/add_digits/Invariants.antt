use Rattle.std.proofs.Common.{◌≡◌, ℕ, List, ◌++◌, length}
use Rattle.std.specs.Option.{option_map}
use Rattle.entries.specs.PrivateDigits.{pairs_of}
use Rattle.entries.proofs.digits.add_digits.Given as goal

-- what is read with what is left is all
abbrev pub invariant-pairs : goal.invariant-pairs
invariant-pairs l = option_map (λ (more : List ℕ). l.bytes.items ++ more) (pairs_of l.rest) ≡ option_map (λ (more : List ℕ). l.initial.bytes.items ++ more) (pairs_of l.text)

abbrev pub decreases-pairs : goal.decreases-pairs
decreases-pairs l = length l.rest
