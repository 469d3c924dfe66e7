use Rattle.std.proofs.Common.{◌<◌, ap, ◌∙◌, length, arith}
use Rattle.trees.specs.PrivateNode.{lists_of, flat, are_parts}
use Rattle.trees.proofs.PartSteps.{item-same, cut-kids, cut-parts, done-ok, some-halved, none-halved}
use Rattle.std.specs.Arc.{arc_value}
use Rattle.trees.proofs.part.make_room.Goals as goal

pub returns-in_err-upper-clause-kids : goal.returns-in_err-upper-clause-kids
returns-in_err-upper-clause-kids c =
    let same = c.in_ok-reserve.ensures.items in
    let inside : c.args.at < length c.reserve.new.self.items = omega (arith, c.requires.inside, c.args.parts.now.ok.0, ap length same) in
    ap flat (item-same c.reserve.new.self.items c.args.at c.index_mut.result.now c.halve.new.part inside c.index_mut.ensures.value (c.in_err-upper.ensures.err) ∙ ap lists_of same)

pub returns-in_err-upper-clause-parts : goal.returns-in_err-upper-clause-parts
returns-in_err-upper-clause-parts c =
    let same = c.in_ok-reserve.ensures.items in
    let inside : c.args.at < length c.reserve.new.self.items = omega (arith, c.requires.inside, c.args.parts.now.ok.0, ap length same) in
    ap are_parts (item-same c.reserve.new.self.items c.args.at c.index_mut.result.now c.halve.new.part inside c.index_mut.ensures.value (c.in_err-upper.ensures.err) ∙ ap lists_of same) ∙ c.requires.parts

pub returns-in-Some-clause-kids : goal.returns-in-Some-clause-kids
returns-in-Some-clause-kids c =
    let same = c.in_ok-reserve.ensures.items in
    let inside : c.args.at < length c.reserve.new.self.items = omega (arith, c.requires.inside, c.args.parts.now.ok.0, ap length same) in
    ap (λ is. flat (lists_of is)) (done-ok _ _ _ _ _ c.unwrap.ensures c.insert.ensures.items)
    ∙ cut-kids c.reserve.new.self.items c.args.at c.index_mut.result.now c.halve.new.part inside c.index_mut.ensures.value (ap (λ is. are_parts (lists_of is)) same ∙ c.requires.parts) c.in-Some.upper (some-halved (arc_value c.index_mut.result.now) (arc_value c.halve.new.part) c.in_ok-upper.field-0 c.in-Some.upper c.in-Some.is c.in_ok-upper.ensures.done)
    ∙ ap (λ is. flat (lists_of is)) same

pub returns-in-Some-clause-parts : goal.returns-in-Some-clause-parts
returns-in-Some-clause-parts c =
    let same = c.in_ok-reserve.ensures.items in
    let inside : c.args.at < length c.reserve.new.self.items = omega (arith, c.requires.inside, c.args.parts.now.ok.0, ap length same) in
    ap (λ is. are_parts (lists_of is)) (done-ok _ _ _ _ _ c.unwrap.ensures c.insert.ensures.items)
    ∙ cut-parts c.reserve.new.self.items c.args.at c.index_mut.result.now c.halve.new.part inside c.index_mut.ensures.value (ap (λ is. are_parts (lists_of is)) same ∙ c.requires.parts) c.in-Some.upper (some-halved (arc_value c.index_mut.result.now) (arc_value c.halve.new.part) c.in_ok-upper.field-0 c.in-Some.upper c.in-Some.is c.in_ok-upper.ensures.done)

pub returns-in_default-clause-kids : goal.returns-in_default-clause-kids
returns-in_default-clause-kids c =
    let same = c.in_ok-reserve.ensures.items in
    let inside : c.args.at < length c.reserve.new.self.items = omega (arith, c.requires.inside, c.args.parts.now.ok.0, ap length same) in
    ap flat (item-same c.reserve.new.self.items c.args.at c.index_mut.result.now c.halve.new.part inside c.index_mut.ensures.value (none-halved (arc_value c.index_mut.result.now) (arc_value c.halve.new.part) c.in_ok-upper.field-0 c.in_default.is c.in_ok-upper.ensures.kept) ∙ ap lists_of same)

pub returns-in_default-clause-parts : goal.returns-in_default-clause-parts
returns-in_default-clause-parts c =
    let same = c.in_ok-reserve.ensures.items in
    let inside : c.args.at < length c.reserve.new.self.items = omega (arith, c.requires.inside, c.args.parts.now.ok.0, ap length same) in
    ap are_parts (item-same c.reserve.new.self.items c.args.at c.index_mut.result.now c.halve.new.part inside c.index_mut.ensures.value (none-halved (arc_value c.index_mut.result.now) (arc_value c.halve.new.part) c.in_ok-upper.field-0 c.in_default.is c.in_ok-upper.ensures.kept) ∙ ap lists_of same) ∙ c.requires.parts
