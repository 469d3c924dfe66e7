use Rattle.std.proofs.Common.{ℕ, List, ◌∷◌, ◌++◌, [], length, sym, ap, ◌∙◌, subst, arith}
use Rattle.std.specs.Prelude.{IsUtf8}
use Rattle.std.proofs.lemmas.List.{length-append}
use Rattle.std.proofs.lemmas.Result.{IfOk-weaker, IfErr-weaker}
use Rattle.lines.specs.PrivateScan.{Settles, Stops, state_at, block_lines, marks_in}
use Rattle.lines.specs.PrivateSteps.{after_lines}
use Rattle.lines.specs.Ready.{HasNoLf}
use Rattle.lines.proofs.PieceLaws.{at_next, stops_at, block_is, line_is, block_utf8, line_utf8, place_low}
use Rattle.lines.proofs.pieces.take_ended.Goals as goal

pub take_line-requires-clause-cut : goal.take_line-requires-clause-cut
take_line-requires-clause-cut c =
    let k = c.requires.known in
    let a = k.3 in
    let e = c.requires.ends in
    let line = line_is k.0 k.1 c.args.kept.now c.args.scan c.args.bytes.now c.args.at c.args.end a c.requires.within e in (
      a.own,
      block_is k.0 k.1 c.args.kept.now c.args.scan c.args.bytes.now c.args.at c.args.end a c.requires.within e ∙ ap (λ (l : List ℕ). a.own ++ (l ++ 10 ∷ [])) (sym line),
      a.read.whole,
      subst HasNoLf (sym line) a.plain,
      a.read.behind,
      a.read.reached,
    )

pub take_line-requires-clause-utf8 : goal.take_line-requires-clause-utf8
take_line-requires-clause-utf8 c =
    let k = c.requires.known in
    let e = c.requires.ends in
    subst IsUtf8 (sym (block_is k.0 k.1 c.args.kept.now c.args.scan c.args.bytes.now c.args.at c.args.end k.3 c.requires.within e))
    (block_utf8 k.0 k.1 c.args.kept.now c.args.scan c.args.bytes.now c.args.at c.args.end k.3 c.requires.within e c.requires.utf8)

pub take_line-requires-clause-line : goal.take_line-requires-clause-line
take_line-requires-clause-line c =
    let k = c.requires.known in
    let e = c.requires.ends in
    subst IsUtf8 (sym (line_is k.0 k.1 c.args.kept.now c.args.scan c.args.bytes.now c.args.at c.args.end k.3 c.requires.within e))
    (line_utf8 k.0 k.1 c.args.kept.now c.args.scan c.args.bytes.now c.args.at c.args.end k.3 c.requires.within e c.requires.utf8)

pub take_line-requires-clause-count : goal.take_line-requires-clause-count
take_line-requires-clause-count c =
    let k = c.requires.known in
    let a = k.3 in
    omega (
      arith,
      k.2,
      place_low k.0 k.1 c.args.scan.lines c.args.scan.progress (marks_in c.args.scan.marks c.args.kept.now) a.front a.own a.read,
      ap length a.cut,
      length-append a.front (a.own ++ (a.line ++ a.rest)),
    )

pub returns-clause-ok : goal.returns-clause-ok
returns-clause-ok c =
    let e = c.requires.ends in
    let scan = c.args.scan in
    let p = scan.progress in
    IfOk-weaker c.take_line.result _ _
    (λ next settles from begins a.
    at_next from begins c.args.kept.now scan c.args.bytes.now c.args.at c.args.end a c.requires.within e next
    (subst (λ (b : List ℕ). Settles c.args.kept.now scan (after_lines (state_at p.place p.room) (block_lines p.is_first b)) (length b) next)
    (block_is from begins c.args.kept.now scan c.args.bytes.now c.args.at c.args.end a c.requires.within e) settles))
    c.take_line.ensures.ok

pub returns-clause-err : goal.returns-clause-err
returns-clause-err c =
    let e = c.requires.ends in
    let scan = c.args.scan in
    let p = scan.progress in
    IfErr-weaker c.take_line.result _ _
    (λ stop stops from begins a.
    stops_at from begins c.args.kept.now scan c.args.bytes.now c.args.at c.args.end a c.requires.within e stop
    (subst (λ (b : List ℕ). Stops (after_lines (state_at p.place p.room) (block_lines p.is_first b)) stop)
    (block_is from begins c.args.kept.now scan c.args.bytes.now c.args.at c.args.end a c.requires.within e) stops))
    c.take_line.ensures.err
