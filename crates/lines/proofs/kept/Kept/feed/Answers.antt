use Rattle.std.proofs.Common.{◌≡◌, ◌≤◌, ◌+◌, ◌-◌, length, take, refl, ap, ◌∙◌, arith}
use Rattle.std.proofs.Math.Seq.{take-append_seam}
use Rattle.std.proofs.lemmas.Result.{err_from_is_err_and}
use Rattle.plain.specs.Limits.{most_dockerfile_bytes}
use Rattle.lines.specs.Reader.{IsUnchanged}
use Rattle.lines.specs.declared.kept.Kept.{Kept}
use Rattle.lines.proofs.FeedLaws.{HasBytes, feed_bad, feed_added, feed_looked, feed_refused}
use Rattle.lines.proofs.kept.Kept.feed.Goals as goal

pub returns-in-Bad : goal.returns-in-Bad
unfolding most_dockerfile_bytes
returns-in-Bad c =
    let kept = c.args.self.now in
    let piece = c.args.piece.now in
    let new : Kept = record kept { size = kept.size + length piece } in
    let fits : length piece ≤ most_dockerfile_bytes - kept.size = omega arith in
    record { ok = λ text h. feed_bad c.in-Bad.field-0 kept new text piece h c.in-Bad.is fits c.in-Bad.is refl refl; err = tt }

pub returns-in_err-extend_from_slice : goal.returns-in_err-extend_from_slice
returns-in_err-extend_from_slice c =
    let kept = c.args.self.now in
    let new : Kept = record kept { bytes = c.extend_from_slice.new.self } in
    let p = err_from_is_err_and c.from_residual.result c.from_residual.ensures.1 in
    let same : IsUnchanged kept new = (refl, refl, refl, c.in_err-extend_from_slice.ensures.items, refl, refl, refl, refl, refl) in
    rw p.1 (record { ok = tt; err = λ text h. feed_refused kept new text same h })

pub look-requires : goal.look-requires
unfolding most_dockerfile_bytes
look-requires c =
    let kept = c.args.self.now in
    let piece = c.args.piece.now in
    let mid : Kept = record kept { size = kept.size + length piece; bytes = c.extend_from_slice.new.self } in
    let fits : length piece ≤ most_dockerfile_bytes - kept.size = omega arith in
    let bytes : HasBytes kept mid piece = record { count = refl; looked = refl; valid = refl; progress = refl; marks = refl; lines = refl; bytes = c.in_ok-extend_from_slice.ensures.items } in
    let k = feed_added kept mid c.requires.0 piece c.requires.1 c.in_default.not-TooLong fits refl bytes in
    record { known = (c.requires.0, piece, k.0, k.1); read = λ line e. c.in_default-known.not-Bad line e }

pub returns-in-Ok : goal.returns-in-Ok
unfolding most_dockerfile_bytes
returns-in-Ok c =
    let kept = c.args.self.now in
    let piece = c.args.piece.now in
    let mid : Kept = record kept { size = kept.size + length piece; bytes = c.extend_from_slice.new.self } in
    let fits : length piece ≤ most_dockerfile_bytes - kept.size = omega arith in
    let bytes : HasBytes kept mid piece = record { count = refl; looked = refl; valid = refl; progress = refl; marks = refl; lines = refl; bytes = c.in_ok-extend_from_slice.ensures.items } in
    record {
      ok = λ text h.
          let k = feed_added kept mid text piece h c.in_default.not-TooLong fits refl bytes in
          feed_looked kept c.look.new.self text piece h c.in_default.not-TooLong k.0 c.look.ensures.size (c.in-Ok.ensures.ok text piece k.1);
      err = tt;
    }

pub returns-in-Err : goal.returns-in-Err
returns-in-Err c =
    let kept = c.args.self.now in
    let piece = c.args.piece.now in
    let looked = c.look.new.self in
    let new : Kept = record looked { size = looked.size - length piece; bytes = c.truncate.new.self } in
    let u = c.in-Err.ensures.err in
    let size = u.0 in
    let before : c.len-before.result ≡ length kept.bytes.items = c.len-before.ensures ∙ kept.bytes.ok.0 in
    let bytes : new.bytes.items ≡ kept.bytes.items =
    c.truncate.ensures.items ∙ ap (λ n. take n looked.bytes.items) before ∙ ap (take (length kept.bytes.items)) (u.3 ∙ c.in_ok-extend_from_slice.ensures.items) ∙ take-append_seam kept.bytes.items piece in
    let same : IsUnchanged kept new = (omega arith, u.1, u.2, bytes, u.4, u.5, u.6, u.7, u.8) in
    record { ok = tt; err = λ text h. feed_refused kept new text same h }
