use Rattle.std.proofs.Common.{◌≡◌, ◌++◌, ◌∷◌, [], length, subst, rules}
use Rattle.memo.specs.Key.{key_of}
use Rattle.memo.specs.PrivateIndex.{Enters}
use Rattle.memo.proofs.IndexKept.{keeps_indexed, append_indexed}
use Rattle.memo.proofs.generation.push.Goals as goal

pub returns-in_default-enter-clause-indexed : goal.returns-in_default-enter-clause-indexed
returns-in_default-enter-clause-indexed c = rw c.reserve.ensures.items (keeps_indexed _ _ _ c.requires.indexed c.in_default-enter.ensures.err)

pub returns-clause-indexed : goal.returns-clause-indexed
returns-clause-indexed c =
    let steps : c.push.new.self.items ≡ c.args.steps.now.items ++ c.args.step ∷ [] = search rules in
    let number : c.len-number.result ≡ length c.args.steps.now.items = search rules in
    let under_key = subst (λ key. Enters c.args.index.now c.enter.new.self key c.len-number.result) c.requires.key c.in-Ok-enter.ensures.ok in
    let entered = subst (Enters c.args.index.now c.enter.new.self (key_of c.args.step.op)) number under_key in
    rw steps (append_indexed _ _ _ c.args.step c.requires.indexed entered)
