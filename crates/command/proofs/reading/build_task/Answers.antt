use Rattle.std.proofs.Common.{◌≡◌, ◌∙◌, sym, Option, Some, None}
use Rattle.command.proofs.Matched.{no_build}
use Rattle.command.proofs.reading.build_task.Goals as goal

-- no number of workers
pub returns-in_default : goal.returns-in_default
returns-in_default c = no_build _ (λ options is. c.in_default.ensures.none options.workers is.workers)

nothing_some : {T : Type 0} (x : T) (found : Option T) → None ≡ found → found ≡ Some x → ⊥
nothing_some x found none some = cc

-- nothing that a bundle can be taken from
pub returns-in_default-2 : goal.returns-in_default-2
returns-in_default-2 c = no_build _ (λ options is. nothing_some options.source _ (sym c.in_default-2.is ∙ c.in_ok-source.ensures) is.source)
