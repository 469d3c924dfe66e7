use Rattle.std.proofs.Common.{◌≡◌, ◌<◌, ◌∙◌, ◌+◌, ◌%◌, ◌++◌, ◌∷◌, [], ℕ, length, ap, ap₂, arith, rules}
use Rattle.std.proofs.lemmas.List.{get_or_read}
use Rattle.std.proofs.lemmas.Nat.{mod_below}
use Rattle.std.specs.Prelude.{get_or, slice_set}
use Rattle.llb.specs.PrivateIndex.{place_of}
use Rattle.llb.proofs.IndexKept.{entered_index}
use Rattle.llb.proofs.index.Index.enter.Goals as goal

pub returns-clause-index : goal.returns-clause-index
returns-clause-index c =
    let hashes : c.push-2.new.self.items ≡ c.open.new.self.hashes.items ++ c.args.hash ∷ [] = search rules in
    let many : c.len.result ≡ length c.open.new.self.ends.items = search rules in
    let place : c.args.hash % c.len.result ≡ place_of c.open.new.self c.args.hash = ap (λ (n : ℕ). c.args.hash % n) many in
    let some : 0 < c.len.result = (let opened = c.in_ok-open.ensures.open in omega (arith, many, opened)) in
    let below = mod_below c.args.hash c.len.result some in
    let read = get_or_read c.open.new.self.ends.items (c.args.hash % c.len.result) c.index.result.now (omega (arith, below, many)) c.index.ensures 0 in
    let value = read ∙ ap (λ (n : ℕ). get_or c.open.new.self.ends.items n 0) place in
    let befores = c.in_ok-push.ensures.items ∙ ap (λ (n : ℕ). c.open.new.self.befores.items ++ n ∷ []) value in
    let count : c.len-2.result ≡ length c.open.new.self.hashes.items + 1 = search rules in
    entered_index c.open.new.self _ c.args.hash c.in_ok-open.ensures.index c.in_ok-open.ensures.open hashes befores
    (ap₂ (λ (p n : ℕ). slice_set c.open.new.self.ends.items p n) place count)
