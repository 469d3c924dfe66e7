use Rattle.std.proofs.Common.{◌≡◌, ◌++◌, ◌∷◌, [], List, Some, None, length, ap, sym, subst, arith, rules}
use Rattle.json.specs.Json.{after_end_array}
use Rattle.json.proofs.Grammar.{left, skip_value-shorter}
use Rattle.serde_json.specs.Data.{object}
use Rattle.borrowed.specs.Pulled.{IsNext}
use Rattle.entries.specs.PrivateKeys.{Reads}
use Rattle.entries.specs.declared.spelled.Spelled.{Spelled}
use Rattle.entries.proofs.MadeFacts.{reads_more, full_batch, last_batch}
use Rattle.entries.proofs.pulling.read_batch.Goals as goal

pub returns-then-len-most : goal.returns-then-len-most
returns-then-len-most c =
    let l = c.reading in
    let going : (after_end_array l.reader ≡ None) × (c.take_end_array.new.self ≡ l.reader) = grind arith in
    full_batch c.args.inner c.args.reader.now l.reader c.take_end_array.new.self l.read.items l.invariant (sym going.1) (omega (arith, c.requires, c.if-len-most.true, c.len.ensures))

pub reading-smaller : goal.reading-smaller
reading-smaller c =
    let going : (after_end_array c.reading.reader ≡ None) × (c.take_end_array.new.self ≡ c.reading.reader) = grind arith in
    let next = c.in_ok-spelled.ensures.1 in
    omega (arith, skip_value-shorter c.args.inner _ _ (ap left next.1), ap length going.1)

pub reading-preserved : goal.reading-preserved
reading-preserved c =
    let l = c.reading in
    let spelled = c.in_ok-spelled.ensures in
    let going : (after_end_array l.reader ≡ None) × (c.take_end_array.new.self ≡ l.reader) = grind arith in
    let next = subst (λ tokens. IsNext c.args.inner tokens c.pull_spelled.new.reader (object spelled.0)) going.1 spelled.1 in
    let pushed : c.push.new.self.items ≡ l.read.items ++ c.in_ok-spelled.spelled ∷ [] = search rules in
    subst (λ (all : List Spelled). Reads c.args.inner c.args.reader.now all c.pull_spelled.new.reader) (sym pushed)
    (reads_more c.args.inner c.args.reader.now l.read.items l.reader c.pull_spelled.new.reader c.in_ok-spelled.spelled spelled.0 l.invariant going.0 next spelled.2)

pub returns : goal.returns
returns c =
    let l = c.reading in
    let over : after_end_array l.reader ≡ Some c.take_end_array.new.self = c.reading-test.ensures in
    last_batch c.args.inner c.args.reader.now l.reader c.take_end_array.new.self l.read.items l.invariant over
