use Rattle.std.proofs.Common.{subst}
use Rattle.imageconfig.specs.Writing.{config_data}
use Rattle.bundle.specs.Answer.{built_text}
use Rattle.answering.specs.declared.status.Status.TheVariants.{Built}
use Rattle.answering.specs.Told.{TellsText, IsTold}
use Rattle.answering.proofs.built.tell_tree.Goals as goal

pub returns : goal.returns
returns g c =
    let old = g.W.CountedWrite.contents c.args.output.now in
    let before = g.W.CountedWrite.failures c.args.output.now in
    let new = g.W.CountedWrite.contents c.write_built.new.output in
    let after = g.W.CountedWrite.failures c.write_built.new.output in
    subst (λ rows. IsTold (TellsText Built (built_text (config_data c.args.config.now) rows)) old before new after c.write_built.result) c.in_ok-unsaid.ensures
    (subst (λ config. IsTold (TellsText Built (built_text (config_data config) c.in_ok-unsaid.unsaid)) old before new after c.write_built.result) c.in_ok-config.ensures
    c.write_built.ensures)
