use Rattle.std.proofs.Common.{◌≡◌, ◌∙◌, Some, false, sym, ap, subst, rules}
use Rattle.std.specs.Prelude.{slice_get}
use Rattle.board.specs.Board.{board_problem}
use Rattle.board.specs.Problem.{values_in}
use Rattle.plans.specs.Value.{trees_at}
use Rattle.memo.specs.Kept.{kept_tree, kept_trees}
use Rattle.memo.specs.Memo.{is_source, entry_of, IsLawful}
use Rattle.memo.proofs.GrowLemmas.{grows-on}
use Rattle.solver.proofs.RememberLemmas.{remembers-same, remembers-on, remembers-added, kept-on, value-lawful}
use Rattle.solver.proofs.remembering.remember_vertex.Goals as goal

pub returns-then-is_source : goal.returns-then-is_source
returns-then-is_source g c = remembers-same (values_in (board_problem g.E.Executor.out c.args.board.now)) c.args.memo.now c.args.kept.now.items c.requires.kept

pub keep_trees-requires : goal.keep_trees-requires
keep_trees-requires g c = (c.type_bounds.sync-E, (c.type_bounds.sync-M, c.keep_tree.ensures.remembers.kept))

pub returns-in_err-inputs : goal.returns-in_err-inputs
returns-in_err-inputs g c =
    remembers-on (values_in (board_problem g.E.Executor.out c.args.board.now)) c.args.memo.now c.keep_tree.new.memo c.keep_trees.new.memo c.keep_trees.new.kept.items c.keep_tree.ensures.remembers.grows c.keep_trees.ensures.remembers

pub returns-in_default-2 : goal.returns-in_default-2
returns-in_default-2 g c =
    remembers-on (values_in (board_problem g.E.Executor.out c.args.board.now)) c.args.memo.now c.keep_tree.new.memo c.keep_trees.new.memo c.keep_trees.new.kept.items c.keep_tree.ensures.remembers.grows c.keep_trees.ensures.remembers

pub add_kept-requires-clause-inputs : goal.add_kept-requires-clause-inputs
add_kept-requires-clause-inputs g c κs within = rw c.in-Some-2.is at c.in_ok-inputs.ensures.keeps

pub add_kept-requires-clause-tree : goal.add_kept-requires-clause-tree
add_kept-requires-clause-tree g c κs within =
    let values = values_in (board_problem g.E.Executor.out c.args.board.now) in
    let here = rw c.in-Some.is at c.in_ok-tree.ensures.number in
    let is = kept-on values c.keep_tree.new.memo c.keep_trees.new.memo c.args.vertex c.in-Some.tree c.keep_trees.ensures.remembers.grows here in
    is.below

pub add_kept-requires-clause-lawful : goal.add_kept-requires-clause-lawful
add_kept-requires-clause-lawful g c κs within =
    let problem = board_problem g.E.Executor.out c.args.board.now in
    let known = c.history-known.ensures in
    let node = c.vertex_at-node.result.now in
    let memo = c.keep_trees.new.memo in
    let here = rw c.in-Some.is at c.in_ok-tree.ensures.number in
    let is = kept-on (values_in problem) c.keep_tree.new.memo memo c.args.vertex c.in-Some.tree c.keep_trees.ensures.remembers.grows here in
    let there : slice_get problem.vertices c.args.vertex ≡ Some node = search rules in
    let runs : is_source node.op ≡ false = search rules in
    let grows = grows-on c.args.memo.now c.keep_tree.new.memo memo c.keep_tree.ensures.remembers.grows c.keep_trees.ensures.remembers.grows in
    let inputs = kept_trees memo.recent c.in-Some-2.inputs in
    let tree = kept_tree memo.recent c.in-Some.tree in
    let given = rw c.in-Some-2.is at c.in_ok-inputs.ensures.trees in
    let trees : trees_at (values_in problem) node.inputs ≡ Some inputs = subst (λ ids. trees_at (values_in problem) ids ≡ Some inputs) c.as_slice.ensures given in
    let lawful = value-lawful problem c.args.vertex node inputs tree known.problem there runs is.value trees in
    subst (λ out. IsLawful out (entry_of node.op inputs tree)) (sym (ap g.M.Executor.out grows.executor ∙ c.requires.executor)) lawful

pub returns : goal.returns
returns g c =
    let values = values_in (board_problem g.E.Executor.out c.args.board.now) in
    let memo = c.keep_trees.new.memo in
    let grows = grows-on c.args.memo.now c.keep_tree.new.memo memo c.keep_tree.ensures.remembers.grows c.keep_trees.ensures.remembers.grows in
    remembers-added values c.args.memo.now memo c.add_kept.new.self c.keep_trees.new.kept.items _ c.add_kept.result grows c.keep_trees.ensures.remembers.kept c.add_kept.ensures.ok c.add_kept.ensures.err
