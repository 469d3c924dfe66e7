use Rattle.std.proofs.Common.{◌+◌, ◌-◌, sym, ap, ◌∙◌, length, arith}
use Rattle.std.proofs.lemmas.Bool.{ltb-true}
use Rattle.paths.specs.Order.{name_cmp}
use Rattle.plans.proofs.SortedSteps.{sought_start, sought_on, sought_back, sought_here, sought_done}
use Rattle.plans.proofs.sorted.place.Goals as goal

pub returns-in-Less-clause-absent : goal.returns-in-Less-clause-absent
returns-in-Less-clause-absent g c =
    let name = c.args.name.now in
    let rows = c.args.rows.now in
    let x = c.in-Some.last.now in
    let some = ltb-true 0 (length rows) (sym c.in-Some.ensures.item.0) in
    let on = sought_on name rows c.requires 0 _ (length rows - 1) (sought_start name rows) (omega arith) (omega (arith, some)) x c.in-Some.ensures.item.1 (ap (name_cmp name) (sym c.as_str.ensures) ∙ sym c.cmp.ensures ∙ c.in-Less.is) in
    sought_done name rows (length rows - 1 + 1) _ on (omega (arith, some))

pub returns-in-Equal-clause-stands : goal.returns-in-Equal-clause-stands
returns-in-Equal-clause-stands g c =
    let name = c.args.name.now in
    let rows = c.args.rows.now in
    let x = c.in-Some.last.now in
    let some = ltb-true 0 (length rows) (sym c.in-Some.ensures.item.0) in
    sought_here name rows c.requires 0 _ (length rows - 1) (sought_start name rows) (omega arith) (omega (arith, some)) x c.in-Some.ensures.item.1 (ap (name_cmp name) (sym c.as_str.ensures) ∙ sym c.cmp.ensures ∙ c.in-Equal.is)

pub seeking-init : goal.seeking-init
seeking-init g c =
    let name = c.args.name.now in
    let rows = c.args.rows.now in
    let x = c.in-Some.last.now in
    let some = ltb-true 0 (length rows) (sym c.in-Some.ensures.item.0) in
    sought_back name rows c.requires 0 _ (length rows - 1) (sought_start name rows) (omega arith) (omega (arith, some)) x c.in-Some.ensures.item.1 (ap (name_cmp name) (sym c.as_str.ensures) ∙ sym c.cmp.ensures ∙ c.in-Greater.is)

pub seeking-preserved-in-Less-cmp : goal.seeking-preserved-in-Less-cmp
seeking-preserved-in-Less-cmp g c =
    sought_on c.args.name.now c.args.rows.now c.requires c.seeking.low c.seeking.high _ c.seeking.invariant (omega arith) (omega arith) c.index-rows-middle.result c.index-rows-middle.is (ap (λ x. name_cmp c.args.name.now x.0) c.index-rows-middle.is ∙ ap (name_cmp c.args.name.now) (sym c.as_str-in-seeking.ensures) ∙ sym c.cmp-in-seeking.ensures ∙ c.in-Less-cmp.is)

pub returns-in-Equal-cmp-clause-stands : goal.returns-in-Equal-cmp-clause-stands
returns-in-Equal-cmp-clause-stands g c =
    sought_here c.args.name.now c.args.rows.now c.requires c.seeking.low c.seeking.high _ c.seeking.invariant (omega arith) (omega arith) c.index-rows-middle.result c.index-rows-middle.is (ap (λ x. name_cmp c.args.name.now x.0) c.index-rows-middle.is ∙ ap (name_cmp c.args.name.now) (sym c.as_str-in-seeking.ensures) ∙ sym c.cmp-in-seeking.ensures ∙ c.in-Equal-cmp.is)

pub seeking-preserved : goal.seeking-preserved
seeking-preserved g c =
    sought_back c.args.name.now c.args.rows.now c.requires c.seeking.low c.seeking.high _ c.seeking.invariant (omega arith) (omega arith) c.index-rows-middle.result c.index-rows-middle.is (ap (λ x. name_cmp c.args.name.now x.0) c.index-rows-middle.is ∙ ap (name_cmp c.args.name.now) (sym c.as_str-in-seeking.ensures) ∙ sym c.cmp-in-seeking.ensures ∙ c.in-Greater-cmp.is)
