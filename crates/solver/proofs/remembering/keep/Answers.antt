use Rattle.memo.proofs.GrowLemmas.{grows-same}
use Rattle.solver.proofs.RememberLemmas.{kept-stands, kept-grows}
use Rattle.solver.proofs.remembering.keep.Goals as goal

pub returns-in_default-clause-there : goal.returns-in_default-clause-there
returns-in_default-clause-there g c = kept-stands c.args.memo.now c.keep.new.self c.args.tree.now c.keep.result c.keep.ensures.number c.keep.ensures.ok

pub returns-in_default-clause-grows : goal.returns-in_default-clause-grows
returns-in_default-clause-grows g c = kept-grows c.args.memo.now c.keep.new.self c.args.tree.now c.keep.result c.keep.ensures.ok c.keep.ensures.err

pub returns-then-not-is_source-clause-there : goal.returns-then-not-is_source-clause-there
returns-then-not-is_source-clause-there g c =
    let call = c.keep-then-not-is_source in
    kept-stands c.args.memo.now call.new.self c.args.tree.now call.result call.ensures.number call.ensures.ok

pub returns-then-not-is_source-clause-grows : goal.returns-then-not-is_source-clause-grows
returns-then-not-is_source-clause-grows g c =
    let call = c.keep-then-not-is_source in
    kept-grows c.args.memo.now call.new.self c.args.tree.now call.result call.ensures.ok call.ensures.err

pub returns-in-Some-source_number-clause-grows : goal.returns-in-Some-source_number-clause-grows
returns-in-Some-source_number-clause-grows g c = grows-same c.args.memo.now

pub returns-in-None-clause-there : goal.returns-in-None-clause-there
returns-in-None-clause-there g c = kept-stands c.args.memo.now c.keep_source.new.self c.args.tree.now c.keep_source.result c.keep_source.ensures.number c.keep_source.ensures.ok

pub returns-in-None-clause-grows : goal.returns-in-None-clause-grows
returns-in-None-clause-grows g c = kept-grows c.args.memo.now c.keep_source.new.self c.args.tree.now c.keep_source.result c.keep_source.ensures.ok c.keep_source.ensures.err
