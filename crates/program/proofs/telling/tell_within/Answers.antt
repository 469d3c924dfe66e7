use Rattle.std.proofs.Common.{◌+◌, refl, sym, ap, subst}
use Rattle.program.specs.Faults.{of_edge}
use Rattle.build.specs.Ends.{Devices, devices}
use Rattle.program.specs.Telling.{TellingEnds}
use Rattle.program.proofs.TellFacts.{read_of, loses_at_most, has_told, has_begun, faulted, err_and}
use Rattle.program.proofs.telling.tell_within.Goals as goal

pub returns-in_err-write_all-in-Ok : goal.returns-in_err-write_all-in-Ok
returns-in_err-write_all-in-Ok g c =
    let failed = c.in_err-write_all-in-Ok.ensures in
    let fault = c.in_err-write_all-in-Ok.field-0.0 in
    let tells = g.T.Teller.tells c.args.teller.now in
    let stops = g.T.Teller.stops c.args.teller.now in
    let bytes = c.as_slice.result.now in
    let line = c.as_slice-in-Ok.result.now in
    let old : Devices = devices (g.R.CountedRead.remaining c.args.input.now) (g.R.CountedRead.failures c.args.input.now) (g.W.CountedWrite.contents c.args.output.now) (g.W.CountedWrite.failures c.args.output.now) in
    let new : Devices = devices (g.R.CountedRead.remaining c.read_all.new.input) (g.R.CountedRead.failures c.read_all.new.input) (g.W.CountedWrite.contents c.write_all.new.output) (g.W.CountedWrite.failures c.write_all.new.output) in
    let read = read_of _ old.left new.left bytes _ (ap (λ n. n + 1) c.requires.limit) c.as_slice.ensures.value c.in_ok-bytes.ensures.bytes in
    let ends = has_begun tells stops (g.met.T.Teller.moves c.args.teller.now) old new bytes line c.in-Ok.told.text c.in-Ok.told.status fault read c.in-Ok.ensures c.as_slice-in-Ok.ensures failed.beginning c.in_ok-bytes.ensures.count failed.count failed.device in
    let is = err_and c.from_residual-in_err-write_all-in-Ok.result (of_edge fault) c.from_residual-in_err-write_all-in-Ok.ensures.1 in
    record {
      ends = subst (TellingEnds tells stops old new) (sym is) ends;
      taken = loses_at_most _ old.left new.left _ c.in_ok-bytes.ensures.bytes;
    }

pub returns-in-Ok : goal.returns-in-Ok
returns-in-Ok g c =
    let tells = g.T.Teller.tells c.args.teller.now in
    let stops = g.T.Teller.stops c.args.teller.now in
    let bytes = c.as_slice.result.now in
    let line = c.as_slice-in-Ok.result.now in
    let old : Devices = devices (g.R.CountedRead.remaining c.args.input.now) (g.R.CountedRead.failures c.args.input.now) (g.W.CountedWrite.contents c.args.output.now) (g.W.CountedWrite.failures c.args.output.now) in
    let new : Devices = devices (g.R.CountedRead.remaining c.read_all.new.input) (g.R.CountedRead.failures c.read_all.new.input) (g.W.CountedWrite.contents c.write_all.new.output) (g.W.CountedWrite.failures c.write_all.new.output) in
    let read = read_of _ old.left new.left bytes _ (ap (λ n. n + 1) c.requires.limit) c.as_slice.ensures.value c.in_ok-bytes.ensures.bytes in
    record {
      ends = has_told tells (g.met.T.Teller.moves c.args.teller.now) old new bytes line c.in-Ok.told.text c.in-Ok.told.status read c.in-Ok.ensures c.as_slice-in-Ok.ensures c.in_ok-write_all-in-Ok.ensures.whole c.in_ok-bytes.ensures.count c.in_ok-write_all-in-Ok.ensures.count;
      taken = loses_at_most _ old.left new.left _ c.in_ok-bytes.ensures.bytes;
    }

pub returns : goal.returns
returns g c =
    let tells = g.T.Teller.tells c.args.teller.now in
    let stops = g.T.Teller.stops c.args.teller.now in
    let bytes = c.as_slice.result.now in
    let old : Devices = devices (g.R.CountedRead.remaining c.args.input.now) (g.R.CountedRead.failures c.args.input.now) (g.W.CountedWrite.contents c.args.output.now) (g.W.CountedWrite.failures c.args.output.now) in
    let new : Devices = devices (g.R.CountedRead.remaining c.read_all.new.input) (g.R.CountedRead.failures c.read_all.new.input) (g.W.CountedWrite.contents c.args.output.now) (g.W.CountedWrite.failures c.args.output.now) in
    let read = read_of _ old.left new.left bytes _ (ap (λ n. n + 1) c.requires.limit) c.as_slice.ensures.value c.in_ok-bytes.ensures.bytes in
    record {
      ends = faulted tells stops (g.met.T.Teller.moves_stops c.args.teller.now) old new bytes c.in-Err.fault read c.in-Err.ensures refl c.in_ok-bytes.ensures.count refl;
      taken = loses_at_most _ old.left new.left _ c.in_ok-bytes.ensures.bytes;
    }
