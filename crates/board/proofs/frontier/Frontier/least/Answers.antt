use Rattle.std.proofs.Common.{◌≡◌, ◌∙◌, inl, inr, ◌&&◌, Bool, true, false, ◌<◌, ◌+◌, ℕ, length, sym, ap, subst, arith, rules}
use Rattle.std.proofs.lemmas.Bool.{cases_lt, cases_eq, and_from, and_left, and_right}
use Rattle.cachemounts.specs.Holds.{can_take}
use Rattle.plans.specs.Plan.{uses_in}
use Rattle.board.specs.PrivateNumbers.{has}
use Rattle.board.specs.PrivateFrontier.{line_in, comes_before, IsThinned}
use Rattle.board.proofs.ListLemmas.{least-found, least-missing}
use Rattle.board.proofs.FrontierSteps.{has-within, thinned-not, thinned-more}
use Rattle.board.proofs.frontier.Frontier.least.Goals as goal
use Rattle.board.proofs.frontier.Frontier.least.Goals.{then-not-comes_before, else-not-comes_before+else-can_take}

pub returns-then-can_take-clause-which : goal.returns-then-can_take-clause-which
returns-then-can_take-clause-which c =
    let old = c.args.self.now in
    let graph = c.args.graph.now in
    let can : ℕ → Bool = λ vertex. can_take c.args.caches.now.holds (uses_in graph.vertices vertex) in
    let takes : ℕ → Bool = λ vertex. can vertex && comes_before (line_in graph.places vertex) old.failed in
    let thinned = c.loop-number.invariant.thinned in
    let vertex = c.new-vertex.result in
    let found = c.in-Some.ensures.found in
    let same : vertex ≡ c.in-Some.number = c.new-vertex.ensures in
    let there : has old.available vertex ≡ true = thinned.fewer vertex (ap (has c.loop-number.self.available) same ∙ found.there) in
    let within = has-within old.available vertex there in
    let before : c.comes_before.result ≡ comes_before (line_in graph.places vertex) old.failed = c.comes_before.ensures ∙ (ap (λ line. comes_before line c.loop-number.self.failed) c.least_place.ensures ∙ ap (λ frontier. comes_before (line_in graph.places vertex) frontier.failed) thinned.same) in
    let free : can vertex ≡ true = search rules in
    sym (least-found (λ k. has old.available k && takes k) (length graph.vertices) vertex (omega (arith, within, c.requires.long)) (and_from (has old.available vertex) (takes vertex) there (and_from (can vertex) _ free (sym before ∙ c.if-not-comes_before.false))) (λ k l. elim (cases_lt k c.loop-number.from) [
      | inl passed ↦ c.loop-number.invariant.passed k passed
      | inr from ↦ thinned-not graph.places old c.loop-number.self k (can k) thinned (found.least k from (omega (arith, l, same)))
    ]))

pub loop-number-preserved : goal.loop-number-preserved
loop-number-preserved c =
    let old = c.args.self.now in
    let graph = c.args.graph.now in
    let can : ℕ → Bool = λ vertex. can_take c.args.caches.now.holds (uses_in graph.vertices vertex) in
    let takes : ℕ → Bool = λ vertex. can vertex && comes_before (line_in graph.places vertex) old.failed in
    let thinned = c.loop-number.invariant.thinned in
    let number = c.in-Some.number in
    let vertex = c.new-vertex.result in
    let found = c.in-Some.ensures.found in
    let same : vertex ≡ number = c.new-vertex.ensures in
    let within = has-within c.loop-number.self.available number found.there in
    let before : c.comes_before.result ≡ comes_before (line_in graph.places number) old.failed = c.comes_before.ensures ∙ (ap (λ line. comes_before line c.loop-number.self.failed) c.least_place.ensures ∙ (ap (λ frontier. comes_before (line_in graph.places vertex) frontier.failed) thinned.same ∙ ap (λ k. comes_before (line_in graph.places k) old.failed) same)) in
    let passed = λ (here : takes number ≡ false) (k : ℕ) (l : k < number + 1). elim (cases_eq k number) as (λ o. (has old.available k && takes k) ≡ false) [
      | inl at ↦ subst (λ n. (has old.available n && takes n) ≡ false) (sym at) (and_right (has old.available number) (takes number) here)
      | inr other ↦ elim (cases_lt k c.loop-number.from) as (λ o. (has old.available k && takes k) ≡ false) [
        | inl earlier ↦ c.loop-number.invariant.passed k earlier
        | inr from ↦ thinned-not graph.places old c.loop-number.self k (can k) thinned (found.least k from (omega (arith, l, other)))
      ]
    ] in
    elim c.if-not-comes_before.branch [
      | then-not-comes_before w ↦
          let stopped : comes_before (line_in graph.places number) old.failed ≡ false = sym before ∙ w.if-not-comes_before.true in
          let more : IsThinned graph.places old c.if-not-comes_before.self = thinned-more graph.places old c.loop-number.self c.if-not-comes_before.self number thinned within stopped (search rules) in
          record {
            thinned = more;
            within = omega (arith, within, more.long, thinned.long);
            passed = passed (and_right (can number) _ stopped);
          }
      | else-not-comes_before+else-can_take w ↦
          let held : can number ≡ false = search rules in
          record {
            thinned = subst (IsThinned graph.places old) (sym w.self-is) thinned;
            within = omega (arith, within, ap (λ frontier. length frontier.available) w.self-is);
            passed = passed (and_left (can number) _ held);
          }
    ]

pub returns-clause-which : goal.returns-clause-which
returns-clause-which c =
    let old = c.args.self.now in
    let graph = c.args.graph.now in
    let can : ℕ → Bool = λ vertex. can_take c.args.caches.now.holds (uses_in graph.vertices vertex) in
    let takes : ℕ → Bool = λ vertex. can vertex && comes_before (line_in graph.places vertex) old.failed in
    sym (least-missing (λ k. has old.available k && takes k) (length graph.vertices) (λ k l. elim (cases_lt k c.loop-number.from) [
      | inl passed ↦ c.loop-number.invariant.passed k passed
      | inr from ↦ thinned-not graph.places old c.loop-number.self k (can k) c.loop-number.invariant.thinned (c.in_default.ensures.none k from)
    ]))
