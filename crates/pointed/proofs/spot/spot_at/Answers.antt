use Rattle.std.proofs.Common.{◌≡◌, ◌+◌, ◌-◌, ◌∙◌, length, ap, subst, arith}
use Rattle.std.specs.Prelude.{IsCharBoundary}
use Rattle.std.proofs.lemmas.List.{length-append}
use Rattle.std.proofs.lemmas.Str.{IsCharBoundary-at_seam}
use Rattle.pointed.proofs.spot.spot_at.Goals as goal

pub range-requires-clause-end_boundary : goal.range-requires-clause-end_boundary
range-requires-clause-end_boundary c =
    let line = c.args.line.now in
    let left = c.args.left.now in
    let all : length line ≡ length c.requires.0 + length left = ap length c.requires.1 ∙ length-append c.requires.0 left in
    let count : length c.requires.0 ≡ length line - length left = omega (arith, all) in
    subst (IsCharBoundary line) count (IsCharBoundary-at_seam line c.requires.0 left c.requires.1 c.utf8.left)
