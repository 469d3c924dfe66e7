use Rattle.std.specs.Prelude.{◌↔◌, ℕ, List, IsTrue}
use Rattle.std.proofs.Common.{subst}
use Rattle.std.specs.List.Sorted.{IsStrictlyIncreasing}
use Rattle.entries.proofs.FingerprintFacts.{sorted-tell}
use Rattle.entries.proofs.fingerprint.are_distinct.Goals as goal

pub returns : goal.returns
returns c =
    let now : List ℕ = c.sort_unstable.new.self.items in
    let rises : IsTrue c.rises.result ↔ IsStrictlyIncreasing now = subst (λ (numbers : List ℕ). IsTrue c.rises.result ↔ IsStrictlyIncreasing numbers) c.as_slice.ensures.value c.rises.ensures in
    sorted-tell c.args.numbers.items now c.rises.result c.sort_unstable.ensures.permutation c.sort_unstable.ensures.sorted rises
