use Rattle.std.proofs.Common.{◌∷◌, [], length, ap, sym, subst, arith}
use Rattle.std.proofs.lemmas.List.{length-append}
use Rattle.std.specs.Prelude.{IfSome}
use Rattle.solver.specs.Recall.{IsKept}
use Rattle.solver.specs.PrivateRemembering.{AreKept}
use Rattle.solver.proofs.RememberLemmas.{kept-none, kept-push}
use Rattle.solver.proofs.remembering.known_numbers.Goals as goal

pub loop-number-init : goal.loop-number-init
loop-number-init g c = (ap length c.in_ok-kept.ensures.items, kept-none g.N.Numbering.values g.N.Numbering.recent c.in_ok-kept.kept.items c.in_ok-kept.ensures.items)

pub loop-number-preserved : goal.loop-number-preserved
loop-number-preserved g c =
    let values = g.N.Numbering.values in
    let recent = g.N.Numbering.recent in
    let before = c.loop-number.kept.items in
    let found = c.known_number.result in
    let items = c.in_ok-push.ensures.items in
    let is : IfSome found (IsKept values recent c.loop-number.number) = subst (λ vertex. IfSome found (IsKept values recent vertex)) c.new.ensures c.known_number.ensures in
    (omega (arith, ap length items, length-append before (found ∷ []), c.loop-number.invariant.0), subst (AreKept values recent) (sym items) (kept-push values recent before found c.loop-number.number c.loop-number.invariant.0 c.loop-number.invariant.1 is))
