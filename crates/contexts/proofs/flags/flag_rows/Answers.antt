use Rattle.std.proofs.Common.{◌≡◌, ◌≤◌, ◌∙◌, List, Vec, Global, Result, [], ◌++◌, lit<, length, get_or, sym, ap, subst, arith, Bool}
use Rattle.std.specs.List.{AllZip}
use Rattle.plain.specs.declared.memory.Memory.{Memory}
use Rattle.rayon.specs.Lists.{chunks_of}
use Rattle.rayon.proofs.ToStd.{chunks_of-concat}
use Rattle.contexts.proofs.Joining.{zip-get, joined-more, joined-whole, RunHas}
use Rattle.contexts.proofs.Rows.{zip-length}
use Rattle.contexts.proofs.flags.flag_rows.Goals as goal

pub loop-run-preserved : goal.loop-run-preserved
loop-run-preserved g c =
    let runs = chunks_of 1024 c.args.rows.now in
    let all : AllZip (RunHas c.args.ignore.now) runs c.as_slice-run-items.result.now =
    subst (λ (l : List (Result (Vec Bool Global) Memory)). AllZip (RunHas c.args.ignore.now) runs l) (sym c.as_slice-run-items.ensures.value) c.in_ok-runs.ensures in
    let w = zip-get (RunHas c.args.ignore.now) runs c.as_slice-run-items.result.now c.loop-run.run-index [] c.run-item.result all c.loop-run-test.true c.run-item.is in
    joined-more c.args.ignore.now runs c.loop-run.run-index c.loop-run.flags.items c.extend_from_slice.new.self.items c.in-Ok.found.items w.0 c.loop-run.invariant
    (subst (λ (r : Result (Vec Bool Global) Memory). RunHas c.args.ignore.now (get_or runs c.loop-run.run-index []) r) c.in-Ok.is w.1)
    (c.in_ok-extend_from_slice-in-Ok.ensures.items ∙ ap (λ l. c.loop-run.flags.items ++ l) c.as_slice.ensures.value)

pub returns : goal.returns
returns g c =
    let runs = chunks_of 1024 c.args.rows.now in
    let same : length c.in_ok-runs.runs.items ≡ length runs = zip-length (RunHas c.args.ignore.now) runs c.in_ok-runs.runs.items c.in_ok-runs.ensures in
    let slice = ap (λ l. length l) c.as_slice-run-items.ensures.value in
    let end = c.loop-run-test.false in
    let all : length runs ≤ c.loop-run.run-index = omega arith in
    joined-whole c.args.ignore.now c.args.rows.now runs c.loop-run.flags.items c.loop-run.run-index all (chunks_of-concat 1024 c.args.rows.now (lit< tt)) c.loop-run.invariant
