use Rattle.std.proofs.Common.{◌≡◌, ◌+◌, ◌-◌, ◌++◌, ◌∷◌, [], ℕ, List, refl, sym, ap, ◌∙◌, subst, length, inl, inr}
use Rattle.std.proofs.lemmas.Result.{IfOk-weaker}
use Rattle.std.specs.Str.Lines.{strip_carriage_return}
use Rattle.lines.specs.PrivateSteps.{after_lines, read_line}
use Rattle.lines.specs.PrivateScan.{state_at, place_after, after_lone, block_lines, below, marks_in, StageIs, IsInside, Settles}
use Rattle.lines.specs.Continued.{plain_line}
use Rattle.lines.specs.declared.scan.Scan.{Scan}
use Rattle.lines.proofs.ReadLaws.{block_line, block_inside, block_alone, fresh_none, fresh_past}
use Rattle.lines.proofs.LoneLaws.{below_lone}
use Rattle.lines.proofs.blocks.take_line.Goals as goal

pub take_block-requires-clause-inside : goal.take_block-requires-clause-inside
take_block-requires-clause-inside c =
    let scan = c.args.scan in
    let p = scan.progress in
    let cut = c.requires.cut in
    subst (λ (b : List ℕ). IsInside (after_lines (state_at p.place p.room) (block_lines p.is_first b))) (sym cut.1)
    (block_inside (marks_in scan.marks c.args.kept.now) p p.stage cut.0 c.args.line.now cut.2 cut.4 cut.3 cut.5)

pub returns-in-Some-progress_behind-clause-ok : goal.returns-in-Some-progress_behind-clause-ok
returns-in-Some-progress_behind-clause-ok c =
    let scan = c.args.scan in
    let p = scan.progress in
    let own = c.requires.cut.0 in
    let prev = after_lines (state_at p.place p.room) (block_lines p.is_first own) in
    let line : c.without_carriage_return-text.result.now ≡ strip_carriage_return c.args.line.now = c.without_carriage_return-text.ensures ∙ ap strip_carriage_return c.text_of.ensures in
    let walk : after_lines (state_at p.place p.room) (block_lines p.is_first c.args.block.now) ≡ read_line prev c.without_carriage_return-text.result.now =
    ap (λ (b : List ℕ). after_lines (state_at p.place p.room) (block_lines p.is_first b)) c.requires.cut.1
    ∙ block_line p.place p.room p.is_first p.stage own c.args.line.now c.requires.cut.2 c.requires.cut.4 c.in-Some-progress_behind.ensures.other c.requires.cut.3
    ∙ ap (read_line prev) (sym line) in
    inr (
      c.in-Some-progress_behind.ensures.later,
      refl,
      refl,
      subst (StageIs (marks_in scan.marks c.args.kept.now) c.in-Some-progress_behind.progress) (sym walk) (c.in-Some-progress_behind.ensures.state prev c.requires.cut.5),
    )

pub returns-in-Some-clause-ok : goal.returns-in-Some-clause-ok
returns-in-Some-clause-ok c =
    let scan = c.args.scan in
    let p = scan.progress in
    let place = c.in-Some.place in
    let cut = c.requires.cut in
    let fresh = c.in-Some.ensures.fresh in
    let line : c.without_carriage_return-text.result.now ≡ strip_carriage_return c.args.line.now = c.without_carriage_return-text.ensures ∙ ap strip_carriage_return c.text_of.ensures in
    let walk : state_at place p.room ≡ after_lines (state_at p.place p.room) (block_lines p.is_first c.args.block.now) =
    block_alone p.place p.room p.is_first cut.0 c.args.line.now c.args.block.now (state_at place p.room) (fresh_none p.stage cut.0 fresh.0 cut.4) fresh.1 cut.3 cut.1
    (ap (read_line (state_at p.place p.room)) (sym line) ∙ c.in-Some.ensures.state) in
    subst
    (λ (next : Scan). Settles c.args.kept.now scan (after_lines (state_at p.place p.room) (block_lines p.is_first c.args.block.now)) (length c.args.block.now) next)
    (sym c.moved_over.ensures)
    (inl (
      fresh.0,
      fresh_past (marks_in scan.marks c.args.kept.now) p (after_lines (state_at p.place p.room) (block_lines p.is_first cut.0)) fresh.0 cut.5,
      refl,
      fresh.1,
      ap (below scan.lines) walk,
    ))

pub returns-in-Some-lone_text-clause-ok : goal.returns-in-Some-lone_text-clause-ok
returns-in-Some-lone_text-clause-ok c =
    let scan = c.args.scan in
    let p = scan.progress in
    let text = c.in-Some-lone_text.text.now in
    let cut = c.requires.cut in
    let lone = c.in-Some-lone_text.ensures in
    let line : c.without_carriage_return-text.result.now ≡ strip_carriage_return c.args.line.now = c.without_carriage_return-text.ensures ∙ ap strip_carriage_return c.text_of.ensures in
    let walk : after_lone p.place p.room text ≡ after_lines (state_at p.place p.room) (block_lines p.is_first c.args.block.now) =
    block_alone p.place p.room p.is_first cut.0 c.args.line.now c.args.block.now (after_lone p.place p.room text) (fresh_none p.stage cut.0 lone.fresh.0 cut.4) lone.fresh.1 cut.3 cut.1
    (ap (read_line (state_at p.place p.room)) (sym line) ∙ lone.state) in
    let past = fresh_past (marks_in scan.marks c.args.kept.now) p (after_lines (state_at p.place p.room) (block_lines p.is_first cut.0)) lone.fresh.0 cut.5 in
    let settles = λ (next : Scan). Settles c.args.kept.now scan (after_lines (state_at p.place p.room) (block_lines p.is_first c.args.block.now)) (length c.args.block.now) next in
    let more = plain_line (p.place.count + 1) p.place.escape text in
    let taken = λ (next : Scan). next ≡ record scan { progress = record p { place = place_after p.place; room = p.room - 1 }; start = scan.start + length c.args.block.now; lines = scan.lines ++ more ∷ [] } in
    IfOk-weaker c.take_lone.result taken settles
    (λ next is. subst settles (sym is)
    (inl (
      lone.fresh.0,
      past,
      refl,
      lone.fresh.1,
      below_lone scan.lines (place_after p.place) p.room more lone.room ∙ ap (below scan.lines) walk,
    )))
    c.take_lone.ensures.ok
