use Rattle.std.proofs.Common.{◌≤◌, length, arith, length-take-le, rules}
use Rattle.entries.proofs.PieceFacts.{front-of}
use Rattle.entries.proofs.pieces.write_front.Goals as goal

pub write_at-requires : goal.write_at-requires
write_at-requires c =
    let inside : 64 ≤ length c.args.bytes.now = first_of (omega arith, search rules, grind (arith)) in
    omega (arith, length-take-le 64 c.args.bytes.now inside)

pub returns-then-text-at-ge-SHORT-clause-front : goal.returns-then-text-at-ge-SHORT-clause-front
returns-then-text-at-ge-SHORT-clause-front c =
    let less : c.args.size ≤ 64 = first_of (omega arith, search rules, grind (arith)) in
    let inside : 64 ≤ length c.args.bytes.now = first_of (omega arith, search rules, grind (arith)) in
    let within : c.args.at ≤ length c.args.text.now = omega arith in
    front-of c.args.at c.args.size 64 c.args.text.now c.write_at.new.text c.args.bytes.now less inside within c.write_at.ensures.front
