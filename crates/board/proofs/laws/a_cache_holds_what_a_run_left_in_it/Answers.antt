use Rattle.board.proofs.StandingLemmas.{first-or-left}
use Rattle.board.proofs.laws.a_cache_holds_what_a_run_left_in_it.Goals as goal

pub returns : goal.returns
returns g c = λ executor. first-or-left (g.E.Executor.leaves executor)
