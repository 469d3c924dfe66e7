use Rattle.std.proofs.Common.{◌≡◌, ◌∙◌, ◌<◌, IsTrue, get_or, length, sym, arith, rules, tests}
use Rattle.std.proofs.lemmas.Option.{slice_get-get_or}
use Rattle.memo.specs.PrivateGeneration.{tree_at}
use Rattle.memo.specs.PrivateSought.{inputs_of}
use Rattle.memo.proofs.GenerationLemmas.{both-at, next-at}
use Rattle.memo.proofs.step.are_at.Goals as goal

pub is_at-requires-clause-known : goal.is_at-requires-clause-known
is_at-requires-clause-known c = λ known.
    let at = c.loop-place.place in
    let number = get_or c.args.numbers.now at 0 in
    c.requires.known at number (sym c.known_at.ensures ∙ known) ∙ c.at.ensures

pub loop-place-preserved : goal.loop-place-preserved
loop-place-preserved c =
    let at = c.loop-place.place in
    let numbers = c.args.numbers.now in
    let below : at < length numbers = search rules in
    let same : tree_at c.args.kept.now (get_or numbers at 0) ≡ c.at.result.now = c.is_at.ensures.is (search (rules, tests)) in
    next-at c.args.kept.now numbers (inputs_of c.args.sought.now) at c.at.result.now below c.at.ensures same c.loop-place.invariant

pub returns-then-not-is_at-clause-are_not : goal.returns-then-not-is_at-clause-are_not
returns-then-not-is_at-clause-are_not c = λ walks same.
    let at = c.loop-place.place in
    let numbers = c.args.numbers.now in
    let number = get_or numbers at 0 in
    let is : tree_at c.args.kept.now number ≡ c.at.result.now =
    both-at c.args.kept.now numbers (inputs_of c.args.sought.now) at number c.at.result.now (slice_get-get_or numbers at 0 (search rules)) c.at.ensures same in
    let yes : IsTrue c.is_at.result = c.is_at.ensures.is_not walks is in
    first_of (search (rules, tests, yes), grind (arith, yes))
