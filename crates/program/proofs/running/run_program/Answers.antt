use Rattle.std.proofs.Common.{map, refl, subst, sym}
use Rattle.clap.specs.Words.{subcommand_of}
use Rattle.build.specs.Ends.{devices}
use Rattle.command.specs.CommandLine.{whole_command}
use Rattle.program.specs.Runs.{Runs, streams, texts_in}
use Rattle.program.specs.Saying.{stream}
use Rattle.program.proofs.TaskFacts.{refused, workers_within}
use Rattle.program.proofs.running.run_program.Goals as goal

pub build_bundle-status-requires-clause-workers : goal.build_bundle-status-requires-clause-workers
build_bundle-status-requires-clause-workers g c κs within =
    workers_within (subcommand_of whole_command (map (λ word. word.now) c.in-Ok.words.now)) c.in-Ok-Build.field-0 c.in-Ok-Build.options c.in-Ok-Build.ensures.task c.in-Ok-Build.field-0-is

-- the words are those that were lent
pub returns-in-Err-clause-runs : goal.returns-in-Err-clause-runs
returns-in-Err-clause-runs g c =
    subst (λ words. Runs (g.E.Executor.out c.args.executor.now) (texts_in words)
    (streams (devices (g.R.CountedRead.remaining c.args.input.now) (g.R.CountedRead.failures c.args.input.now) (g.W.CountedWrite.contents c.args.output.now) (g.W.CountedWrite.failures c.args.output.now)) (stream (g.S.CountedWrite.contents c.args.errors.now) (g.S.CountedWrite.failures c.args.errors.now)))
    (streams (devices (g.R.CountedRead.remaining c.args.input.now) (g.R.CountedRead.failures c.args.input.now) (g.W.CountedWrite.contents c.refuse_words.new.output) (g.W.CountedWrite.failures c.refuse_words.new.output)) (stream (g.S.CountedWrite.contents c.refuse_words.new.errors) (g.S.CountedWrite.failures c.refuse_words.new.errors)))
    c.refuse_words.result)
    (sym c.in-Ok.is) (refused _ _ _ _ _ _ c.in-Err.ensures.faults (record { left = refl; failed_reads = refl }) c.refuse_words.ensures)
