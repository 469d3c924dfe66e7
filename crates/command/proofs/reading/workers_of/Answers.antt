use Rattle.std.proofs.Common.{codes, arith}
use Rattle.clap.specs.Words.{found_of}
use Rattle.std.specs.Str.Parse.{ParsesUnsigned, ExplainsUnsignedError, HasUnsignedDigitsIfOk}
use Rattle.clap.proofs.WalkLemmas.{one_text-rows}
use Rattle.command.proofs.Matched.{if_none, read_none, read_out, read_some}
use Rattle.command.proofs.reading.workers_of.Goals as goal

pub returns-in_err-workers-clause-none : goal.returns-in_err-workers-clause-none
returns-in_err-workers-clause-none c =
    if_none _ _ (read_none _ (λ bs r. ParsesUnsigned 8 10 bs r × ExplainsUnsignedError 10 bs r × HasUnsignedDigitsIfOk bs r) (λ u x g. g.0) _ _ (one_text-rows (found_of c.args.matches.now) (codes "workers")) c.in_err-workers.ensures.value)

pub returns-then-workers-lt-LEAST_WORKERS-clause-none :
    goal.returns-then-workers-lt-LEAST_WORKERS-clause-none
returns-then-workers-lt-LEAST_WORKERS-clause-none c =
    read_out _ (λ bs r. ParsesUnsigned 8 10 bs r × ExplainsUnsignedError 10 bs r × HasUnsignedDigitsIfOk bs r) (λ u x g. g.0) _ _ c.in_ok-workers.workers (one_text-rows (found_of c.args.matches.now) (codes "workers")) c.in_ok-workers.ensures.value
    (λ least most. let either = c.then-workers-lt-LEAST_WORKERS.either in omega arith)

pub returns-clause-some : goal.returns-clause-some
returns-clause-some c =
    read_some _ (λ bs r. ParsesUnsigned 8 10 bs r × ExplainsUnsignedError 10 bs r × HasUnsignedDigitsIfOk bs r) (λ u x g. g.0) _ _ c.in_ok-workers.workers (one_text-rows (found_of c.args.matches.now) (codes "workers")) c.in_ok-workers.ensures.none
    c.in_ok-workers.ensures.value c.if-workers-lt-LEAST_WORKERS.false c.if-workers-gt-MOST_WORKERS.false
