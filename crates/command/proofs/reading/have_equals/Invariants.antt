use Rattle.std.proofs.Common.{◌≡◌, drop}
use Rattle.std.specs.List.{list_all}
use Rattle.command.specs.Sources.{has_equals}
use Rattle.command.proofs.reading.have_equals.Given as goal

-- the texts that are left decide
abbrev pub invariant-loop-text : goal.invariant-loop-text
invariant-loop-text l = list_all (λ text. has_equals text.now) l.texts ≡ list_all (λ text. has_equals text.now) (drop l.text-index l.texts)
