use Rattle.std.proofs.Common.{◌≡◌, ◌<◌, ◌-◌, length, subst, sym, ap, ◌∙◌, arith}
use Rattle.std.proofs.lemmas.Grind.{common_steps}
use Rattle.trees.specs.TreeMap.{IsTree}
use Rattle.trees.specs.Builder.{Built}
use Rattle.trees.specs.PrivateNode.{map_of, node_of}
use Rattle.trees.specs.PrivateSpine.{whole}
use Rattle.trees.proofs.SpineSteps.{spine-rise}
use Rattle.trees.proofs.BuilderSteps.{root-whole, root-there}
use Rattle.trees.proofs.builder.TreeBuilder.into_tree.Goals as goal

pub close-requires : goal.close-requires
close-requires c = spine-rise c.self.inside.folders.items c.self.invariant.0

pub returns-in-None : goal.returns-in-None
returns-in-None c =
    let old = c.self.inside.folders.items in
    let new = c.close.new.folders.items in
    let some : 0 < length old = grind (arith, common_steps) in
    let long : c.len-below_root.result ≡ length old = grind (arith, common_steps) in
    let few : length new < 1 = grind (arith, common_steps) in
    root-there old new (c.len-below_root.result - 1) some (ap (λ n. n - 1) long) c.in_ok-close.ensures few

pub of_root-requires : goal.of_root-requires
of_root-requires c =
    let old = c.self.inside.folders.items in
    let root = c.in-Some.root in
    let node = c.in_ok-node-in-Some.node in
    let some : 0 < length old = grind (arith, common_steps) in
    let long : c.len-below_root.result ≡ length old = grind (arith, common_steps) in
    let is : node ≡ node_of root.top root.kids = ap (λ k. k.1) c.in_ok-node-in-Some.ensures in
    let all : map_of (node_of root.top root.kids) ≡ whole old = root-whole old c.close.new.folders.items c.pop.new.self.items root (c.len-below_root.result - 1) some (ap (λ n. n - 1) long) c.in_ok-close.ensures c.in-Some.ensures.items in
    subst IsTree (sym (ap map_of is ∙ all)) c.self.invariant.1

pub returns : goal.returns
returns c =
    let old = c.self.inside.folders.items in
    let root = c.in-Some.root in
    let node = c.in_ok-node-in-Some.node in
    let some : 0 < length old = grind (arith, common_steps) in
    let long : c.len-below_root.result ≡ length old = grind (arith, common_steps) in
    let is : node ≡ node_of root.top root.kids = ap (λ k. k.1) c.in_ok-node-in-Some.ensures in
    let all : map_of (node_of root.top root.kids) ≡ whole old = root-whole old c.close.new.folders.items c.pop.new.self.items root (c.len-below_root.result - 1) some (ap (λ n. n - 1) long) c.in_ok-close.ensures c.in-Some.ensures.items in
    c.of_root.ensures ∙ ap map_of is ∙ all ∙ ap (λ (b : Built). b.tree) c.self.view_is
