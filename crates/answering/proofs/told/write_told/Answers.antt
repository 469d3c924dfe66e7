use Rattle.std.proofs.Common.{◌≡◌, refl, ◌∙◌, subst}
use Rattle.std.specs.Io.KnownBytes.{Appends}
use Rattle.answering.proofs.TellFacts.{line_begun}
use Rattle.answering.proofs.told.write_told.Goals as goal

pub returns-in-Ok : goal.returns-in-Ok
returns-in-Ok g c =
    let line : c.as_bytes.result.now ≡ c.args.told.line = c.as_bytes.ensures.value ∙ c.as_str.ensures in (
      c.args.told,
      refl,
      refl,
      subst (Appends (g.W.CountedWrite.contents c.args.output.now) (g.W.CountedWrite.contents c.write_all.new.output)) line c.in-Ok.ensures.whole,
      c.in-Ok.ensures.count,
    )

pub returns : goal.returns
returns g c =
    let line : c.as_bytes.result.now ≡ c.args.told.line = c.as_bytes.ensures.value ∙ c.as_str.ensures in
    line_begun c.args.told c.as_bytes.result.now _ _ _ _ c.in-Err.field-0 line c.in-Err.ensures.beginning c.in-Err.ensures.device c.in-Err.ensures.count
