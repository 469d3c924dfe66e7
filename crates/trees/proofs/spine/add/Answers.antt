use Rattle.std.proofs.Common.{◌≡◌, ◌-◌, ◌≤◌, ◌<◌, ◌∷◌, List, Some, length, take, drop, subst, arith, sym, ◌∙◌, ap}
use Rattle.std.proofs.lemmas.Grind.{common_steps}
use Rattle.trees.specs.PrivateSpine.{OpenValue, Forks}
use Rattle.trees.proofs.ForkSteps.{mid-within, left-some, added, first-rest, part-from}
use Rattle.trees.proofs.SpineSteps.{spine-rise}
use Rattle.trees.proofs.spine.add.Goals as goal

pub close-requires : goal.close-requires
close-requires c = spine-rise c.args.folders.now.items c.requires

pub slice_bounds-t-38-count : goal.slice_bounds-t-38-count
slice_bounds-t-38-count c =
    let old = c.args.folders.now.items in
    let mid = c.close.new.folders.items in
    let path = c.args.path.now in
    let some : 0 < length old = grind (arith, common_steps) in
    let long : c.len-shared.result ≡ length mid = grind (arith, common_steps) in
    let found = subst (λ (l : List OpenValue). Forks l path (Some c.in-Some.count)) c.as_slice.ensures.value c.in-Some.ensures in
    let within : length mid - 1 ≤ length path = mid-within old mid path c.args.entry c.in-Some.count some c.requires found c.in_ok-close.ensures in
    omega arith

pub slice_bounds-t-39-start : goal.slice_bounds-t-39-start
slice_bounds-t-39-start c =
    let old = c.args.folders.now.items in
    let mid = c.close.new.folders.items in
    let path = c.args.path.now in
    let some : 0 < length old = grind (arith, common_steps) in
    let long : c.len-shared.result ≡ length mid = grind (arith, common_steps) in
    let found = subst (λ (l : List OpenValue). Forks l path (Some c.in-Some.count)) c.as_slice.ensures.value c.in-Some.ensures in
    let within : length mid - 1 ≤ length path = mid-within old mid path c.args.entry c.in-Some.count some c.requires found c.in_ok-close.ensures in
    let start : c.len-shared.result - 1 ≤ length path = omega arith in
    start

pub returns-in_default-2 : goal.returns-in_default-2
returns-in_default-2 c =
    let old = c.args.folders.now.items in
    let mid = c.close.new.folders.items in
    let path = c.args.path.now in
    let shared = c.len-shared.result - 1 in
    let some : 0 < length old = grind (arith, common_steps) in
    let long : c.len-shared.result ≡ length mid = grind (arith, common_steps) in
    let found = subst (λ (l : List OpenValue). Forks l path (Some c.in-Some.count)) c.as_slice.ensures.value c.in-Some.ensures in
    let seen = take (length path - shared) (drop shared path) in
    let more : 1 ≤ length seen = left-some old mid path c.args.entry c.in-Some.count some c.requires found c.in_ok-close.ensures seen (part-from path shared ∙ ap (λ n. drop (n - 1) path) long) in
    absurd (let few = c.in_default-2.len_below in omega arith)

pub returns : goal.returns
returns c =
    let old = c.args.folders.now.items in
    let mid = c.close.new.folders.items in
    let path = c.args.path.now in
    let shared = c.len-shared.result - 1 in
    let some : 0 < length old = grind (arith, common_steps) in
    let long : c.len-shared.result ≡ length mid = grind (arith, common_steps) in
    let found = subst (λ (l : List OpenValue). Forks l path (Some c.in-Some.count)) c.as_slice.ensures.value c.in-Some.ensures in
    let seen = take (length path - shared) (drop shared path) in
    let rest = take (length seen - 1) (drop 1 seen) in
    added old mid path c.args.entry c.in-Some.count some c.requires found c.in_ok-close.ensures seen rest _ c.open_down.new.folders.items (part-from path shared ∙ ap (λ n. drop (n - 1) path) long)
    (first-rest seen c.name-item.result c.in-len1-up.len_at_least c.name-item.is ∙ ap (λ n. n ∷ rest) (sym c.in_ok-copy.ensures)) c.in_ok-open_down.ensures
