use Rattle.std.proofs.Common.{rules}
use Rattle.drawing.proofs.DrawFacts.{drawn, clashes}
use Rattle.drawing.proofs.drawing.draw.Goals as goal

pub returns-in-Ok : goal.returns-in-Ok
returns-in-Ok g c =
    let simple = c.in_ok-simple.ensures in
    drawn c.args.plan c.in_ok-simple.simple c.in-Ok.text c.graph-known.ensures.plan simple.simplified simple.flat simple.keeps simple.needed c.in-Ok.ensures.written
    c.in-Ok.ensures.back

pub returns-in-Err-Because : goal.returns-in-Err-Because
returns-in-Err-Because g c =
    clashes c.args.plan c.in_ok-simple.simple c.in-Err-Because.field-0 c.in-Err-Because.field-0-0 (search rules)
    c.clashes_are_of_different_operations.ensures.told c.graph-known.ensures.plan c.in_ok-simple.ensures.simplified c.in-Err-Because.ensures-1.written
