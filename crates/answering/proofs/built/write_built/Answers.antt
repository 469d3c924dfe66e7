use Rattle.std.proofs.Common.{ℕ, List, subst}
use Rattle.counted.specs.Gathering.{nothing, sink, Says}
use Rattle.counted.proofs.GatheringFacts.{says_both}
use Rattle.imageconfig.specs.Writing.{config_data}
use Rattle.bundle.specs.Answer.{built_text}
use Rattle.counted.specs.Edges.{line_of}
use Rattle.answering.specs.declared.status.Status.TheVariants.{Built}
use Rattle.answering.proofs.TellFacts.{text_told, text_begun}
use Rattle.answering.proofs.built.write_built.Goals as goal

pub returns-in-Ok : goal.returns-in-Ok
returns-in-Ok g c =
    let old = g.W.CountedWrite.contents c.args.output.now in
    let before = g.W.CountedWrite.failures c.args.output.now in
    let text : List ℕ = built_text (config_data c.args.config.now) c.args.unsaid in
    let said = says_both c.put_built.ensures.says c.gather.ensures.says in
    let whole : Says (sink old before nothing) (sink (g.W.CountedWrite.contents c.gather.new.output) (g.W.CountedWrite.failures c.gather.new.output) c.gather.new.gathered) (line_of text) =
    subst (λ start. Says (sink old before start) (sink (g.W.CountedWrite.contents c.gather.new.output) (g.W.CountedWrite.failures c.gather.new.output) c.gather.new.gathered) (line_of text)) c.requires.empty said in
    let ended = c.in-Ok.ensures old before (line_of text) whole in
    text_told Built text _ _ _ _ ended.0 ended.1

pub returns-in-Err : goal.returns-in-Err
returns-in-Err g c =
    let old = g.W.CountedWrite.contents c.args.output.now in
    let before = g.W.CountedWrite.failures c.args.output.now in
    let text : List ℕ = built_text (config_data c.args.config.now) c.args.unsaid in
    let said = says_both c.put_built.ensures.says c.gather.ensures.says in
    let whole : Says (sink old before nothing) (sink (g.W.CountedWrite.contents c.gather.new.output) (g.W.CountedWrite.failures c.gather.new.output) c.gather.new.gathered) (line_of text) =
    subst (λ start. Says (sink old before start) (sink (g.W.CountedWrite.contents c.gather.new.output) (g.W.CountedWrite.failures c.gather.new.output) c.gather.new.gathered) (line_of text)) c.requires.empty said in
    text_begun Built text _ _ _ _ c.in-Err.field-0 (c.in-Err.ensures old before (line_of text) whole)
