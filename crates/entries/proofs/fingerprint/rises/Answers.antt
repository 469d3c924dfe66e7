use Rattle.std.specs.Prelude.{nat_lt}
use Rattle.std.proofs.Common.{rules}
use Rattle.std.proofs.lemmas.List.Sorted.{answers_always}
use Rattle.entries.proofs.FingerprintFacts.{rises-is}
use Rattle.entries.proofs.fingerprint.rises.Goals as goal

pub returns : goal.returns
returns c = rises-is c.args.numbers.now c.is_sorted_by.result (c.is_sorted_by.ensures.cases nat_lt (answers_always _ _ _ (λ f a r g k. search rules)))
