use Rattle.std.proofs.Common.{◌≡◌, ◌∙◌, ℕ, List, ◌++◌, sym, ap, true≢false, ◌<◌, ◌+◌, ◌-◌, ◌*◌, length, take, drop, arith}
use Rattle.std.proofs.lemmas.Result.{on_ok_weaker}
use Rattle.trees.specs.Rows.{entry_of}
use Rattle.vertexrun.proofs.MatchSteps.{fewer-left, here-found, clean-here, clean-child, clean-first, child-found, no-child-found, all-found, found-first, passed-first}
use Rattle.vertexrun.proofs.FrontSteps.{branch-found, branch-clean, branch-from, rest-from, end-found, none-left}
use Rattle.vertexrun.proofs.patterns.+descending.Goals as goal

pub descend-returns-in-empty : goal.descend-returns-in-empty
descend-returns-in-empty t c =
    here-found c.args.at c.args.components.now c.args.branch.now (entry_of c.entry-entry.result) c.args.found.now.items c.push.new.self.items c.in-empty.len_below c.entry-entry.ensures c.in_ok-push-in-empty.ensures.items

pub descend-enter-requires : goal.descend-enter-requires
descend-enter-requires t c =
    let d : 3 * length c.args.components.now ≡ t = c.decreases in
    let fewer = fewer-left c.args.components.now c.in-len1-up.len_at_least in
    let g : 3 * length (take (length c.args.components.now - 1) (drop 1 c.args.components.now)) + 1 < t = omega arith in
    (g, clean-child c.args.at c.in-Some.name.now c.args.branch.now c.in-Some-child.child c.in-Some-child.ensures c.requires)

pub descend-returns-in-Some-child : goal.descend-returns-in-Some-child
descend-returns-in-Some-child t c =
    on_ok_weaker c.enter.result
    (child-found c.args.at c.in-Some.name.now c.args.components.now c.component-item.result c.args.branch.now c.in-Some-child.child c.args.found.now.items c.enter.new.found.items c.in-len1-up.len_at_least c.component-item.is c.in-Some.ensures c.in-Some-child.ensures)
    c.enter.ensures

pub descend-returns-in-Some : goal.descend-returns-in-Some
descend-returns-in-Some t c =
    no-child-found c.args.at c.in-Some.name.now c.args.components.now c.component-item.result c.args.branch.now c.args.found.now.items c.in-len1-up.len_at_least c.component-item.is c.in-Some.ensures c.in-None-child.ensures

pub descend-returns : goal.descend-returns
descend-returns t c =
    on_ok_weaker c.go_through.result
    (all-found c.args.at c.args.components.now c.component-item.result c.args.branch.now c.args.found.now.items c.go_through.new.found.items c.in-len1-up.len_at_least c.component-item.is)
    c.go_through.ensures

pub enter-child-requires : goal.enter-child-requires
enter-child-requires t c = clean-here _ c.args.child.now (entry_of c.entry-entry.result) c.entry-entry.ensures c.requires

pub go_through-enter-requires : goal.go_through-enter-requires
go_through-enter-requires t c =
    let d : 3 * length c.args.rest.now + 2 ≡ t = c.decreases in
    let g : 3 * length c.args.rest.now + 1 < t = omega arith in
    (g, (clean-first c.args.at.now c.in-Some.name.now c.in-Some.child c.loop-name.children c.next.new.self c.in-Some.ensures c.loop-name.invariant.clean).0)

pub go_through-loop-name-init : goal.go_through-loop-name-init
go_through-loop-name-init t c = record {
  found =
      ap (λ (paths : List (List (List ℕ))). c.args.found.now.items ++ paths)
      (branch-found c.args.at.now c.args.component.now c.args.rest.now c.front-front.result.now c.front-front.ensures c.args.branch.now c.children_from-children.result c.children_from-children.ensures);
  clean = branch-clean c.args.at.now c.front-front.result.now c.args.branch.now c.children_from-children.result c.children_from-children.ensures c.requires;
  rise = c.children_from-children.ensures.rise;
  from = branch-from c.front-front.result.now c.args.branch.now c.children_from-children.result c.children_from-children.ensures;
}

pub go_through-loop-name-preserved : goal.go_through-loop-name-preserved
go_through-loop-name-preserved t c =
    let left = rest-from c.front-front.result.now c.in-Some.name.now c.in-Some.child c.loop-name.children c.next.new.self c.in-Some.ensures c.loop-name.invariant.rise c.loop-name.invariant.from in
    record {
      found = found-first c.args.at.now c.in-Some.name.now c.in-Some.child c.args.component.now c.args.rest.now c.loop-name.children c.next.new.self c.in-Some.ensures (sym c.matches.ensures ∙ c.if-not-matches.false) c.loop-name.found.items c.enter.new.found.items _ c.loop-name.invariant.found c.in_ok-enter.ensures;
      clean = (clean-first c.args.at.now c.in-Some.name.now c.in-Some.child c.loop-name.children c.next.new.self c.in-Some.ensures c.loop-name.invariant.clean).1;
      rise = left.0;
      from = left.1;
    }

pub go_through-loop-name-preserved-then-not-matches : goal.go_through-loop-name-preserved-then-not-matches
go_through-loop-name-preserved-then-not-matches t c =
    let left = rest-from c.front-front.result.now c.in-Some.name.now c.in-Some.child c.loop-name.children c.next.new.self c.in-Some.ensures c.loop-name.invariant.rise c.loop-name.invariant.from in
    record {
      found = passed-first c.args.at.now c.in-Some.name.now c.in-Some.child c.args.component.now c.args.rest.now c.loop-name.children c.next.new.self c.in-Some.ensures (sym c.matches.ensures ∙ c.if-not-matches.true) c.loop-name.found.items _ c.loop-name.invariant.found;
      clean = (clean-first c.args.at.now c.in-Some.name.now c.in-Some.child c.loop-name.children c.next.new.self c.in-Some.ensures c.loop-name.invariant.clean).1;
      rise = left.0;
      from = left.1;
    }

pub go_through-returns-then-not-begins_as : goal.go_through-returns-then-not-begins_as
go_through-returns-then-not-begins_as t c =
    none-left c.loop-name.found.items _ _
    (end-found c.args.at.now c.args.component.now c.args.rest.now c.front-front.result.now c.front-front.ensures c.in-Some.name.now c.in-Some.child c.loop-name.children c.next.new.self c.in-Some.ensures c.loop-name.invariant.rise c.loop-name.invariant.from
    (λ begins. true≢false (sym (c.begins_as.ensures.1 begins) ∙ c.if-not-begins_as.true)))
    c.loop-name.invariant.found
