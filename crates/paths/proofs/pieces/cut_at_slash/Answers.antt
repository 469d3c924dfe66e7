use Rattle.std.proofs.Common.{sym, ◌∙◌, ap, arith, ◌<◌, length}
use Rattle.std.proofs.lemmas.Str.{IsCharBoundary-before_ascii, IsCharBoundary-after_ascii}
use Rattle.paths.proofs.CutLaws.{piece_len, pieces-whole, pieces-first, first_slash}
use Rattle.paths.proofs.pieces.cut_at_slash.Goals as goal

pub returns-then-length-text : goal.returns-then-length-text
returns-then-length-text c =
    let at = c.piece_len-length.ensures ∙ ap piece_len c.as_bytes.ensures.value in
    pieces-whole c.args.text.now (sym at ∙ c.if-length-text.true)

pub range-requires-clause-end_boundary : goal.range-requires-clause-end_boundary
range-requires-clause-end_boundary c =
    let at = c.piece_len-length.ensures ∙ ap piece_len c.as_bytes.ensures.value in
    let first = first_slash c.args.text.now _ at c.if-length-text.false in
    IsCharBoundary-before_ascii c.args.text.now _ first.inside first.ascii

pub range_from-requires : goal.range_from-requires
range_from-requires c = λ _.
    let at = c.piece_len-length.ensures ∙ ap piece_len c.as_bytes.ensures.value in
    let first = first_slash c.args.text.now _ at c.if-length-text.false in
    IsCharBoundary-after_ascii c.args.text.now _ c.utf8.text first.inside first.ascii

pub returns : goal.returns
returns c =
    let at = c.piece_len-length.ensures ∙ ap piece_len c.as_bytes.ensures.value in
    let first = first_slash c.args.text.now _ at c.if-length-text.false in
    let inside : c.piece_len-length.result < length c.args.text.now = first.inside in
    (rw (c.range.ensures.value, c.range_from.ensures.value) (pieces-first c.args.text.now _ first), omega (arith, c.range_from.ensures.len))
