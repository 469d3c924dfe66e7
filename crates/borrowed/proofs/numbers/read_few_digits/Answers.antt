use Rattle.std.proofs.Common.{arith}
use Rattle.borrowed.proofs.FewDigits.{read-small, read-more}
use Rattle.borrowed.proofs.numbers.read_few_digits.Goals as goal

pub overflow_mul-whole : goal.overflow_mul-whole
overflow_mul-whole c =
    let small = read-small c.args.text.now c.loop-byte.byte-index c.loop-byte.whole c.loop-byte.invariant c.loop-byte-test.true c.if-text-gt-FEW_DIGITS.false in
    omega arith

pub overflow_add-whole : goal.overflow_add-whole
overflow_add-whole c =
    let small = read-small c.args.text.now c.loop-byte.byte-index c.loop-byte.whole c.loop-byte.invariant c.loop-byte-test.true c.if-text-gt-FEW_DIGITS.false in
    let digit = c.if-not-is_ascii_digit.ensures.cases in
    omega arith

pub loop-byte-preserved : goal.loop-byte-preserved
loop-byte-preserved c = read-more c.args.text.now c.loop-byte.byte-index c.loop-byte.whole c.loop-byte.invariant c.loop-byte-test.true c.if-not-is_ascii_digit.ensures.cases
