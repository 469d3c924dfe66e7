use Rattle.std.proofs.Common.{◌≡◌, ℕ, ◌≤◌, List, ◌++◌, length, sym, ap, ◌∙◌, rules, arith}
use Rattle.std.specs.Option.{option_map}
use Rattle.entries.proofs.DigitFacts.{bytes-are, no_bytes, pairs-next, pairs-bad, pairs-odd, pairs-end}
use Rattle.entries.proofs.digits.add_digits.Goals as goal

pub returns-in_default-byte_of-clause-err : goal.returns-in_default-byte_of-clause-err
returns-in_default-byte_of-clause-err c =
    let two : 2 ≤ length c.pairs.rest.now = omega (arith, c.in-len2-up.len_at_least) in
    no_bytes c.args.text.now _ (pairs-bad c.pairs.bytes.items c.pairs.rest.now _ c.pairs.invariant two (sym c.byte_of.ensures ∙ c.in_default-byte_of.is))

pub pairs-preserved : goal.pairs-preserved
pairs-preserved c =
    let two : 2 ≤ length c.pairs.rest.now = omega (arith, c.in-len2-up.len_at_least) in
    pairs-next c.pairs.bytes.items c.pairs.rest.now _ c.pairs.invariant c.push.new.self.items c.in-Some.byte two
    (sym c.byte_of.ensures ∙ c.in-Some.is) c.in_ok-push.ensures.items

pub returns-then-is_empty-clause-ok : goal.returns-then-is_empty-clause-ok
returns-then-is_empty-clause-ok c =
    let none : length c.pairs.rest.now ≡ 0 = first_of (omega arith, search rules, grind (arith)) in
    sym (ap (λ o. option_map (λ (more : List ℕ). c.args.bytes.now.items ++ more) o) (bytes-are c.args.text.now)) ∙ pairs-end c.pairs.bytes.items c.pairs.rest.now _ c.pairs.invariant none

pub returns-else-is_empty-clause-err : goal.returns-else-is_empty-clause-err
returns-else-is_empty-clause-err c =
    let one : length c.pairs.rest.now ≡ 1 = first_of (omega arith, grind (arith)) in
    no_bytes c.args.text.now _ (pairs-odd c.pairs.bytes.items c.pairs.rest.now _ c.pairs.invariant one)
