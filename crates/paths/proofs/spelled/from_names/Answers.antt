use Rattle.std.proofs.Common.{rules, subst, ◌≡◌, length, true, []}
use Rattle.paths.proofs.SpelledLaws.{AreTaken, may_follow, taken-next}
use Rattle.paths.proofs.spelled.from_names.Goals as goal

pub loop-piece-preserved : goal.loop-piece-preserved
loop-piece-preserved c =
    let names = c.args.names.now in
    let parts = c.loop-piece.parts.items in
    let piece = c.in-Some.piece.now in
    let taken : AreTaken parts _ names = subst (λ ps. AreTaken parts ps names) c.in-Some.ensures.0 c.loop-piece.invariant.1 in
    let may : may_follow (length parts) piece ≡ true = (cc) in
    (search rules, rw (c.in_ok-push.ensures.items, c.in_ok-from_str.ensures) (taken-next parts _ piece names taken may))

pub from_parts-requires : goal.from_parts-requires
from_parts-requires c =
    let names = c.args.names.now in
    let parts = c.loop-piece.parts.items in
    let rest = c.loop-piece.rest.now in
    let taken : AreTaken parts _ names = subst (λ ps. AreTaken parts ps names) c.in_default.ensures c.loop-piece.invariant.1 in
    let may : may_follow (length parts) rest ≡ true = (cc) in
    rw (c.in_ok-push-2.ensures.items, c.in_ok-from_str-2.ensures) ((taken-next parts [] rest names taken may).clean)
