use Rattle.std.proofs.Common.{◌≡◌, ◌∙◌, Some, None, Ok, sym, subst, arith, rules}
use Rattle.std.specs.Prelude.{slice_index_or}
use Rattle.board.specs.Board.{board_problem}
use Rattle.board.specs.Play.{value_at}
use Rattle.board.specs.Problem.{values_in}
use Rattle.solver.specs.PrivateRemembering.{IsPut}
use Rattle.solver.proofs.RememberLemmas.{remembers-same, remembers-there, remembers-grown, kept-there, settled-tree}
use Rattle.solver.proofs.remembering.keep_tree.Goals as goal

pub returns-in-Some-Some-clause-remembers : goal.returns-in-Some-Some-clause-remembers
returns-in-Some-Some-clause-remembers g c = remembers-same (values_in (board_problem g.E.Executor.out c.args.board.now)) c.args.memo.now c.args.kept.now.items c.requires

pub returns-in-Some-Some-clause-number : goal.returns-in-Some-Some-clause-number
returns-in-Some-Some-clause-number g c =
    let number = c.in-Some-Some.number in
    let is : c.in-Some-Some.field-0.now ≡ Some number = first_of (search rules, cc) in
    let read : slice_index_or c.as_slice.result.now c.index.result None ≡ Some number = sym (c.in-Some-Some.ensures.lookup.4 (omega arith) None) ∙ is in
    let at : slice_index_or c.as_slice.result.now c.args.vertex None ≡ Some number = subst (λ k. slice_index_or c.as_slice.result.now k None ≡ Some number) c.index.ensures read in
    c.requires c.args.vertex number (subst (λ ns. slice_index_or ns c.args.vertex None ≡ Some number) c.as_slice.ensures.value at)

pub returns-in_err-number-in-Some-Ok-clause-remembers : goal.returns-in_err-number-in-Some-Ok-clause-remembers
returns-in_err-number-in-Some-Ok-clause-remembers g c =
    remembers-grown (values_in (board_problem g.E.Executor.out c.args.board.now)) c.args.memo.now c.keep.new.memo c.args.kept.now.items c.keep.ensures.grows c.requires

pub returns-in_ok-number-in-Some-Ok-clause-remembers : goal.returns-in_ok-number-in-Some-Ok-clause-remembers
returns-in_ok-number-in-Some-Ok-clause-remembers g c =
    let board = c.args.board.now in
    let problem = board_problem g.E.Executor.out board in
    let is = c.history-known.ensures in
    let vertex = c.args.vertex in
    let tree = c.in-Some-Ok.tree in
    let settled : value_at board.run.state.settled vertex ≡ Some (Ok tree) = first_of (search rules, cc) in
    let value : slice_index_or (values_in problem) vertex None ≡ Some (Ok tree) = settled-tree problem board.run vertex tree is.problem is.replay settled in
    let put : IsPut c.args.kept.now.items c.put.new.numbers.items vertex c.in_ok-number-in-Some-Ok.number = subst (λ at. IsPut c.args.kept.now.items c.put.new.numbers.items at c.in_ok-number-in-Some-Ok.number) c.index-in-Some-Ok.ensures c.put.ensures in
    remembers-there (values_in problem) c.args.memo.now c.keep.new.memo tree vertex c.in_ok-number-in-Some-Ok.number c.args.kept.now.items c.put.new.numbers.items c.keep.ensures.grows c.in_ok-number-in-Some-Ok.ensures.there value c.requires put

pub returns-in_ok-number-in-Some-Ok-clause-number : goal.returns-in_ok-number-in-Some-Ok-clause-number
returns-in_ok-number-in-Some-Ok-clause-number g c =
    let board = c.args.board.now in
    let problem = board_problem g.E.Executor.out board in
    let is = c.history-known.ensures in
    let vertex = c.args.vertex in
    let tree = c.in-Some-Ok.tree in
    let settled : value_at board.run.state.settled vertex ≡ Some (Ok tree) = first_of (search rules, cc) in
    let value : slice_index_or (values_in problem) vertex None ≡ Some (Ok tree) = settled-tree problem board.run vertex tree is.problem is.replay settled in
    kept-there (values_in problem) c.keep.new.memo.recent.trees tree vertex c.in_ok-number-in-Some-Ok.number c.in_ok-number-in-Some-Ok.ensures.there value

pub returns-in_default-value-clause-remembers : goal.returns-in_default-value-clause-remembers
returns-in_default-value-clause-remembers g c = remembers-same (values_in (board_problem g.E.Executor.out c.args.board.now)) c.args.memo.now c.args.kept.now.items c.requires

pub returns-in_default-value-2-clause-remembers : goal.returns-in_default-value-2-clause-remembers
returns-in_default-value-2-clause-remembers g c = remembers-same (values_in (board_problem g.E.Executor.out c.args.board.now)) c.args.memo.now c.args.kept.now.items c.requires
