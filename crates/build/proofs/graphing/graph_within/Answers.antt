use Rattle.std.proofs.Common.{◌≡◌, ◌+◌, refl, sym, ap, ◌∙◌, subst}
use Rattle.answering.specs.Faults.{of_edge}
use Rattle.build.specs.Ends.{Devices, devices, GraphEnds}
use Rattle.build.proofs.BuildingFacts.{read_of, loses_at_most, graph_answered, graph_begun, graph_faulted, err_and}
use Rattle.build.proofs.graphing.graph_within.Goals as goal

pub returns-in_err-write_all-in-Ok : goal.returns-in_err-write_all-in-Ok
returns-in_err-write_all-in-Ok g c =
    let failed = c.in_err-write_all-in-Ok.ensures in
    let fault = c.in_err-write_all-in-Ok.field-0.0 in
    let bytes = c.as_slice.result.now in
    let line = c.as_bytes.result.now in
    let old : Devices = devices (g.R.CountedRead.remaining c.args.input.now) (g.R.CountedRead.failures c.args.input.now) (g.W.CountedWrite.contents c.args.output.now) (g.W.CountedWrite.failures c.args.output.now) in
    let new : Devices = devices (g.R.CountedRead.remaining c.read_all.new.input) (g.R.CountedRead.failures c.read_all.new.input) (g.W.CountedWrite.contents c.write_all.new.output) (g.W.CountedWrite.failures c.write_all.new.output) in
    let read = read_of _ old.left new.left bytes _ (ap (λ n. n + 1) c.requires.limit) c.as_slice.ensures.value c.in_ok-bytes.ensures.bytes in
    let told : line ≡ c.in-Ok.told.line = c.as_bytes.ensures.value ∙ c.as_str.ensures in
    let ends = graph_begun old new bytes line c.in-Ok.told fault read c.in-Ok.ensures told failed.beginning c.in_ok-bytes.ensures.count failed.count failed.device in
    let is = err_and c.from_residual-in_err-write_all-in-Ok.result (of_edge fault) c.from_residual-in_err-write_all-in-Ok.ensures.1 in
    record {
      ends = subst (GraphEnds old new) (sym is) ends;
      taken = loses_at_most _ old.left new.left _ c.in_ok-bytes.ensures.bytes;
    }

pub returns-in-Ok : goal.returns-in-Ok
returns-in-Ok g c =
    let bytes = c.as_slice.result.now in
    let line = c.as_bytes.result.now in
    let old : Devices = devices (g.R.CountedRead.remaining c.args.input.now) (g.R.CountedRead.failures c.args.input.now) (g.W.CountedWrite.contents c.args.output.now) (g.W.CountedWrite.failures c.args.output.now) in
    let new : Devices = devices (g.R.CountedRead.remaining c.read_all.new.input) (g.R.CountedRead.failures c.read_all.new.input) (g.W.CountedWrite.contents c.write_all.new.output) (g.W.CountedWrite.failures c.write_all.new.output) in
    let read = read_of _ old.left new.left bytes _ (ap (λ n. n + 1) c.requires.limit) c.as_slice.ensures.value c.in_ok-bytes.ensures.bytes in
    let told : line ≡ c.in-Ok.told.line = c.as_bytes.ensures.value ∙ c.as_str.ensures in
    record {
      ends = graph_answered old new bytes line c.in-Ok.told read c.in-Ok.ensures told c.in_ok-write_all-in-Ok.ensures.whole c.in_ok-bytes.ensures.count c.in_ok-write_all-in-Ok.ensures.count;
      taken = loses_at_most _ old.left new.left _ c.in_ok-bytes.ensures.bytes;
    }

pub returns : goal.returns
returns g c =
    let bytes = c.as_slice.result.now in
    let old : Devices = devices (g.R.CountedRead.remaining c.args.input.now) (g.R.CountedRead.failures c.args.input.now) (g.W.CountedWrite.contents c.args.output.now) (g.W.CountedWrite.failures c.args.output.now) in
    let new : Devices = devices (g.R.CountedRead.remaining c.read_all.new.input) (g.R.CountedRead.failures c.read_all.new.input) (g.W.CountedWrite.contents c.args.output.now) (g.W.CountedWrite.failures c.args.output.now) in
    let read = read_of _ old.left new.left bytes _ (ap (λ n. n + 1) c.requires.limit) c.as_slice.ensures.value c.in_ok-bytes.ensures.bytes in
    record {
      ends = graph_faulted old new bytes c.in-Err.fault read c.in-Err.ensures refl c.in_ok-bytes.ensures.count refl;
      taken = loses_at_most _ old.left new.left _ c.in_ok-bytes.ensures.bytes;
    }
