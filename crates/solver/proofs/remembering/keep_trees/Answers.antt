use Rattle.std.proofs.Common.{◌≡◌, ◌∙◌, ◌+◌, ◌∷◌, ◌++◌, [], Some, take, get_or, ap, sym, subst, refl, arith, rules}
use Rattle.std.proofs.lemmas.List.{take_more}
use Rattle.board.specs.Board.{board_problem}
use Rattle.board.specs.Problem.{values_in}
use Rattle.plans.specs.Value.{trees_at}
use Rattle.memo.specs.Kept.{KeepsAll, kept_trees}
use Rattle.solver.proofs.RememberLemmas.{remembers-same, remembers-on, inputs-push, keeps-push}
use Rattle.solver.proofs.remembering.keep_trees.Goals as goal

pub loop-vertex-init : goal.loop-vertex-init
loop-vertex-init g c = record {
  remembers = remembers-same (values_in (board_problem g.E.Executor.out c.args.board.now)) c.args.memo.now c.args.kept.now.items c.requires;
  trees = rw c.new-numbers.ensures refl;
  keeps = rw c.new-numbers.ensures (λ k d l. absurd (omega (arith, l)));
}

pub keep_tree-requires : goal.keep_tree-requires
keep_tree-requires g c = (c.type_bounds.sync-E, (c.type_bounds.sync-M, c.loop-vertex.invariant.remembers.kept))

pub loop-vertex-preserved : goal.loop-vertex-preserved
loop-vertex-preserved g c =
    let values = values_in (board_problem g.E.Executor.out c.args.board.now) in
    let ids = c.args.vertices.now in
    let at = c.loop-vertex.vertex-index in
    let id = c.vertex-item.result in
    let old = c.loop-vertex.memo in
    let new = c.keep_tree.new.memo in
    let numbers = c.loop-vertex.numbers in
    let number = c.in-Some.number in
    let inv = c.loop-vertex.invariant in
    let here : get_or ids at id ≡ id = search rules in
    let more : take (at + 1) ids ≡ take at ids ++ id ∷ [] = take_more ids at id (search rules) ∙ ap (λ t. take at ids ++ t ∷ []) here in
    let push : c.push.new.self ≡ numbers ++ number ∷ [] = search rules in
    let grows = c.keep_tree.ensures.remembers.grows in
    let is = rw c.in-Some.is at c.in_ok-number.ensures.number in
    let trees : trees_at values (take at ids ++ id ∷ []) ≡ Some (kept_trees new.recent (numbers ++ number ∷ [])) = inputs-push values (take at ids) id old new numbers number grows inv.keeps inv.trees is in
    record {
      remembers = remembers-on values c.args.memo.now old new c.keep_tree.new.kept.items inv.remembers.grows c.keep_tree.ensures.remembers;
      trees = ap (trees_at values) more ∙ (trees ∙ ap (λ ns. Some (kept_trees new.recent ns)) (sym push));
      keeps = subst (KeepsAll new.recent) (sym push) (keeps-push values id old new numbers number grows inv.keeps is);
    }
