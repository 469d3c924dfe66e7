use Rattle.std.proofs.Common.{◌-◌, sym, ap, refl, ◌∙◌, drop}
use Rattle.trees.proofs.WalkSteps.{Gives, gives_past, has_room, is_known, goes_behind, all_but_last}
use Rattle.trees.proofs.walk.step_up_to.Goals as goal
use Rattle.trees.proofs.walk.step_up_to.Goals.{After-unwrap}

pub unwrap-requires : goal.unwrap-requires
unwrap-requires c =
    let passed = c.in-Some.ensures.1 in
    let at = c.leave_bare.ensures c.args.kids.now c.args.are_bare.now c.requires.way in
    let behind = goes_behind c.leave_bare.new.names c.args.above.now c.args.kids.now _ _ (c.in-Some.passed - 1) c.args.are_bare.now at.way at.level c.in-Some.ensures.0 passed.left in
    c.push.ensures.succeeds (has_room c.leave_bare.new.names c.args.above.now _ c.pass_bare.new.kids c.args.are_bare.now c.in-Some.name passed.last behind.way at.level passed.left).0

-- the walk behind the last one that was passed
gives : (c : After-unwrap) → Gives c.leave_bare.new.names c.push.new.self c.args.above.now c.args.above.now (drop (c.in-Some.passed - 1) c.args.kids.now) c.pass_bare.new.kids c.args.are_bare.now c.in-Some.ensures.1.last.top
gives c =
    let passed = c.in-Some.ensures.1 in
    let kids = drop (c.in-Some.passed - 1) c.args.kids.now in
    let are_bare = c.args.are_bare.now in
    let at = c.leave_bare.ensures c.args.kids.now are_bare c.requires.way in
    let behind = goes_behind c.leave_bare.new.names c.args.above.now c.args.kids.now _ _ (c.in-Some.passed - 1) are_bare at.way at.level c.in-Some.ensures.0 passed.left in
    let bare = is_known c.leave_bare.new.names c.args.above.now kids c.pass_bare.new.kids are_bare c.in-Some.name passed.last behind.way passed.left c.in-Some.ensures.0 in
    let named = rw c.unwrap.ensures at c.push.ensures.items in
    gives_past c.leave_bare.new.names c.push.new.self c.args.above.now kids c.pass_bare.new.kids are_bare c.in-Some.name passed.last passed.last.top behind.way at.level passed.left bare named c.push.ensures.capacity refl

pub returns-clause-way : goal.returns-clause-way
returns-clause-way c = (gives c).way

pub returns-clause-passed : goal.returns-clause-passed
returns-clause-passed c = λ some.
    let passed = c.in-Some.ensures.1 in
    let at = c.leave_bare.ensures c.args.kids.now c.args.are_bare.now c.requires.way in
    let behind = goes_behind c.leave_bare.new.names c.args.above.now c.args.kids.now _ _ (c.in-Some.passed - 1) c.args.are_bare.now at.way at.level c.in-Some.ensures.0 passed.left in
    record {
      some = some;
      few = passed.few;
      last = passed.last.top;
      left = ap (drop (c.in-Some.passed - 1)) (sym at.same) ∙ behind.rows ∙ (gives c).rows;
    }

pub returns-clause-keeps : goal.returns-clause-keeps
returns-clause-keeps c =
    let at = c.leave_bare.ensures c.args.kids.now c.args.are_bare.now c.requires.way in
    all_but_last c.args.names.now.items c.leave_bare.new.names.items c.push.new.self.items c.in-Some.name at.first (rw c.unwrap.ensures at c.push.ensures.items)
